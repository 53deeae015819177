-- Document 02, R-13: the sheet, which is the total and the open line, and what a record of a log does to it. Definitions only.
use Rattle.std.specs.Prelude.{Bool, true, false, cond, ◌&&◌, List, ℕ, ◌+◌, eqb, length, Option, Some, None}
use Rattle.exact.specs.Whole.{Whole, ◌⊕◌}
use Rattle.samples.specs.Samples.{little_from, sample_at}
use Rattle.positions.specs.Positions.{plain, held_in, inside}
use Rattle.lines.specs.declared.Line.{Line}
use Rattle.lines.specs.declared.End.{End}
use Rattle.lines.specs.declared.End.TheVariants as end
use Rattle.lines.specs.Lines.{Figures, is_count, Going, on, ended, started, with_block, figures_of}
use Rattle.sheets.specs.declared.Total.{Total}
use Rattle.sheets.specs.declared.Sheet.{Sheet}
use Rattle.sheets.specs.declared.Told.{Told}
use Rattle.sheets.specs.declared.Turn.{Turn}

-- "a total over streams that equals the sum of the parts"
pub record Sums : Type 0 where
  pub frames : ℕ
  pub blocks : ℕ
  pub exactly : Whole
  pub stored : Whole

abbrev pub nothing : Sums
nothing = record { frames = 0; blocks = 0; exactly = (0, 0); stored = (0, 0) }

abbrev pub plus : Sums → Figures → Sums
plus s f =
    record { frames = s.frames + f.frames; blocks = s.blocks + f.blocks; exactly = plain (s.exactly ⊕ f.exactly); stored = plain (s.stored ⊕ f.stored) }

-- refusal 23, of the total
abbrev pub sums_fit : Sums → Bool
sums_fit s = inside s.exactly && (inside s.stored && (is_count s.frames && is_count s.blocks))

-- the open line, if one is open
pub data Current : Type 0 where
  none : Current
  line : Figures → Current

-- the sum of the lines that have ended, that with the open line added, and the open line
pub record Page : Type 0 where
  pub closed : Sums
  pub total : Sums
  pub current : Current

abbrev pub empty : Page
empty = record { closed = nothing; total = nothing; current = none }

-- ---- what is told when a record has been judged: nothing, a line that has ended, or the word of a bad record where no line is open
pub data Row : Type 0 where
  quiet : Row
  row : Figures → End → Row
  word : End → Row

-- the page then, what is told, and whether the log is read on
pub record Judged : Type 0 where
  pub page : Page
  pub row : Row
  pub reads : Bool

-- no line is open any more; what was open is in the sum
abbrev pub closing : Page → Page
closing p = record { closed = p.total; total = p.total; current = none }

-- "ends that log's line; the sheet says so": with what stood before the record, and nothing more of that log is read
abbrev pub end_row : Current → End → Row
end_row none e = word e
end_row (line f) e = row f e

abbrev pub bad : Page → End → Judged
bad p e = record { page = closing p; row = end_row p.current e; reads = false }

-- the same where nothing is told of a line that is not open
abbrev pub line_row : Current → End → Row
line_row none e = quiet
line_row (line f) e = row f e

-- "A construction or reset starts a new line and closes the old"
abbrev pub closed_row : Current → Row
closed_row c = line_row c end.Closed

unfoldable pub with_total : Page → Sums → Row → Figures → Judged
with_total p s r f = cond (sums_fit (plus s f)) (record { page = record { closed = s; total = plus s f; current = line f }; row = r; reads = true }) (bad p end.Range)

unfoldable pub with_line : Page → Sums → Row → Going → Judged
with_line p s r (on f) = with_total p s r f
with_line p s r (ended e) = bad p e

-- "construction's and reset's is the bits of the start index"
unfoldable pub start : Page → List ℕ → Judged
start p payload =
    cond (eqb (length payload) 8)
    (with_line p p.total (closed_row p.current) (started (sample_at payload 0)))
    (bad p end.Payload)

-- "a block's payload is its output and input size (four bytes each), then the bits of t, d and the index after it"
unfoldable pub block : Page → Figures → List ℕ → Judged
block p f payload =
    cond (eqb (length payload) 32)
    (with_line p p.closed quiet (with_block f (little_from payload 0 4) (little_from payload 4 4) (sample_at payload 8) (sample_at payload 16) (sample_at payload 24)))
    (bad p end.Payload)

unfoldable pub block_on : Page → Current → List ℕ → Judged
block_on p none payload = bad p end.Early
block_on p (line f) payload = block p f payload

-- a record by its kind (1 construction, 2 setting, 3 block, 4 reset): a setting of any payload does nothing. The reader gives no other kind
unfoldable pub judge : Page → ℕ → List ℕ → Judged
judge p kind payload =
    cond (eqb kind 3) (block_on p p.current payload)
    (cond (eqb kind 2) (record { page = p; row = quiet; reads = true })
    (start p payload))

-- the end of a log: its line, if one is open, ends `open`
unfoldable pub log_end : Page → Judged
log_end p = record { page = closing p; row = line_row p.current end.Open; reads = false }

-- ---- the code's words for these
abbrev pub sums_of : Total → Sums
sums_of t = record { frames = t.frames; blocks = t.blocks; exactly = held_in t.exactly; stored = held_in t.stored }

abbrev pub current_of : Option Line → Current
current_of (Some l) = line (figures_of l)
current_of None = none

abbrev pub page_of : Sheet → Page
page_of s = record { closed = sums_of s.closed; total = sums_of s.total; current = current_of s.line }

abbrev pub row_of : Option Told → Row
row_of None = quiet
row_of (Some t) = end_row (current_of t.line) t.end

abbrev pub judged_of : Turn → Judged
judged_of t = record { page = page_of t.sheet; row = row_of t.told; reads = t.reads }
