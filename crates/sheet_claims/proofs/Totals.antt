-- The sheet's total is the sum of its rows' lines, and fits. Assumes nothing.
use mathlib.Core.Bool.{Bool, true, false, true≢false, cond}
use mathlib.Core.List.{List, [], ◌∷◌, ◌++◌}
use mathlib.Core.Path.{◌≡◌, refl, sym, ap, ◌∙◌}
use Prim.Native.Nat.{ℕ}
use lib.Dec.{eqb}
use lib.ListN.{length}
use Rattle.big.specs.Value.{half}
use Rattle.samples.specs.Samples.{little_from, sample_at}
use Rattle.lines.specs.declared.End.{End}
use Rattle.lines.specs.declared.End.TheVariants as end
use Rattle.lines.specs.Lines.{Figures, Going, on, ended, started, with_block}
use Rattle.sheets.specs.Sheet.{Sums, nothing, plus, sums_fit, Current, none, line, Page, empty, Row, quiet, row, word, Judged, end_row, bad, closed_row, with_total, with_line, start, block, block_on, judge, log_end}
use Rattle.sheet_claims.specs.Logs.{Reading, with_row, onward, judged_record, read_records, read_log, read_logs, sheet_over, sum_of}

-- ---- what a page adds up to: the lines that have ended, and the open one
abbrev with_open : Sums → Current → Sums
with_open s none = s
with_open s (line f) = plus s f

abbrev Adds : Page → Type 0
Adds p = p.total ≡ with_open p.closed p.current

-- a row told is added to what has ended
abbrev row_sum : Sums → Row → Sums
row_sum s quiet = s
row_sum s (row f e) = plus s f
row_sum s (word e) = s

-- the page after a judgement adds up too, and after the last one no line is open
record Keeps (p : Page) (j : Judged) : Type 0 where
  adds : Adds j.page
  told : j.page.closed ≡ row_sum p.closed j.row
  stops : j.reads ≡ false → j.page.current ≡ none
  fits : sums_fit p.total ≡ true → sums_fit j.page.total ≡ true

bad_keeps : (p : Page) (e : End) → Adds p → Keeps p (bad p e)
bad_keeps p e a = record { adds = refl; told = a ∙ go p.current; stops = λ h. refl; fits = λ h. h }
  where
    go : (c : Current) → with_open p.closed c ≡ row_sum p.closed (end_row c e)
    go none = refl
    go (line f) = refl

total_keeps : (p : Page) (s : Sums) (r : Row) (f : Figures) → Adds p → s ≡ row_sum p.closed r → Keeps p (with_total p s r f)
unfolding with_total
total_keeps p s r f a e = go (sums_fit (plus s f)) refl
  where
    go : (t : Bool) → sums_fit (plus s f) ≡ t → Keeps p (cond t (record { page = record { closed = s; total = plus s f; current = line f }; row = r; reads = true }) (bad p end.Range))
    go true h = record { adds = refl; told = e; stops = λ q. absurd (true≢false q); fits = λ q. h }
    go false h = bad_keeps p end.Range a

line_keeps : (p : Page) (s : Sums) (r : Row) (g : Going) → Adds p → s ≡ row_sum p.closed r → Keeps p (with_line p s r g)
unfolding with_line
line_keeps p s r (on f) a e = total_keeps p s r f a e
line_keeps p s r (ended w) a e = bad_keeps p w a

start_keeps : (p : Page) (payload : List ℕ) → Adds p → Keeps p (start p payload)
unfolding start
start_keeps p payload a = go (eqb (length payload) 8)
  where
    closes : (c : Current) → with_open p.closed c ≡ row_sum p.closed (closed_row c)
    closes none = refl
    closes (line f) = refl

    go : (t : Bool) → Keeps p (cond t (with_line p p.total (closed_row p.current) (started (sample_at payload 0))) (bad p end.Payload))
    go true = line_keeps p p.total (closed_row p.current) (started (sample_at payload 0)) a (a ∙ closes p.current)
    go false = bad_keeps p end.Payload a

block_keeps : (p : Page) (c : Current) (payload : List ℕ) → Adds p → Keeps p (block_on p c payload)
unfolding block_on block
block_keeps p none payload a = bad_keeps p end.Early a
block_keeps p (line f) payload a = go (eqb (length payload) 32)
  where
    g : Going
    g = with_block f (little_from payload 0 4) (little_from payload 4 4) (sample_at payload 8) (sample_at payload 16) (sample_at payload 24)

    go : (t : Bool) → Keeps p (cond t (with_line p p.closed quiet g) (bad p end.Payload))
    go true = line_keeps p p.closed quiet g a refl
    go false = bad_keeps p end.Payload a

judge_keeps : (p : Page) (kind : ℕ) (payload : List ℕ) → Adds p → Keeps p (judge p kind payload)
unfolding judge
judge_keeps p kind payload a = go (eqb kind 3) (eqb kind 2)
  where
    go : (t u : Bool) → Keeps p (cond t (block_on p p.current payload) (cond u (record { page = p; row = quiet; reads = true }) (start p payload)))
    go true u = block_keeps p p.current payload a
    go false true = record { adds = a; told = refl; stops = λ h. absurd (true≢false h); fits = λ h. h }
    go false false = start_keeps p payload a

end_keeps : (p : Page) → Adds p → Keeps p (log_end p)
unfolding log_end
end_keeps p a = record { adds = refl; told = a ∙ go p.current; stops = λ h. refl; fits = λ h. h }
  where
    go : (c : Current) → with_open p.closed c ≡ row_sum p.closed (log_end (record { closed = p.closed; total = p.total; current = c })).row
    go none = refl
    go (line f) = refl

-- ---- rows told one after the other
sum_row : (s : Sums) (r : Row) (rows : List Row) → sum_of s (with_row r rows) ≡ sum_of (row_sum s r) rows
unfolding sum_of
sum_row s quiet rows = refl
sum_row s (row f e) rows = refl
sum_row s (word e) rows = refl

sum_append : (s : Sums) (a b : List Row) → sum_of s (a ++ b) ≡ sum_of (sum_of s a) b
unfolding sum_of
sum_append s [] b = refl
sum_append s (quiet ∷ a) b = sum_append s a b
sum_append s (row f e ∷ a) b = sum_append (plus s f) a b
sum_append s (word e ∷ a) b = sum_append s a b

-- ---- a log read to its end: no line is open, and the total is the sum of the rows, begun with what had ended before
record Read (p : Page) (r : Reading) : Type 0 where
  over : r.page.current ≡ none
  adds : Adds r.page
  told : r.page.closed ≡ sum_of p.closed r.rows
  fits : sums_fit p.total ≡ true → sums_fit r.page.total ≡ true

-- with nothing more to read
read_last : (p : Page) (j : Judged) → j.reads ≡ false → Keeps p j → Read p (record { page = j.page; rows = with_row j.row [] })
unfolding sum_of
read_last p j e k = record { over = k.stops e; adds = k.adds; told = k.told ∙ sym (sum_row p.closed j.row []); fits = k.fits }

read_on : (p : Page) (j : Judged) (rest : Reading) → Keeps p j → Read j.page rest → Read p (onward j rest)
unfolding onward
read_on p j rest k r = go j.reads refl
  where
    go : (t : Bool) → j.reads ≡ t → Read p (cond t (record { page = rest.page; rows = with_row j.row rest.rows }) (record { page = j.page; rows = with_row j.row [] }))
    go true e =
        record {
          over = r.over;
          adds = r.adds;
          told = r.told ∙ ap (λ (s : Sums). sum_of s rest.rows) k.told ∙ sym (sum_row p.closed j.row rest.rows);
          fits = λ h. r.fits (k.fits h);
        }
    go false e = read_last p j e k

end_reads : (p : Page) → (log_end p).reads ≡ false
unfolding log_end
end_reads p = refl

records_read : (p : Page) (rs : List (List ℕ)) → Adds p → Read p (read_records p rs)
unfolding read_records
records_read p [] a = read_last p (log_end p) (end_reads p) (end_keeps p a)
records_read p (r ∷ rs) a =
    let k = judge_keeps p _ _ a in
    read_on p (judged_record p r) (read_records (judged_record p r).page rs) k (records_read (judged_record p r).page rs k.adds)

-- where no line is open
shut : (p : Page) → p.current ≡ none → Adds p → p.total ≡ p.closed
shut p e a = a ∙ ap (with_open p.closed) e

logs_read : (p : Page) (logs : List (List ℕ)) → p.current ≡ none → Adds p → Read p (read_logs p logs)
unfolding read_logs sum_of
logs_read p [] e a = record { over = e; adds = a; told = refl; fits = λ h. h }
logs_read p (log ∷ logs) e a =
    let r = records_read p _ a in
    let q = read_log p log in
    let m = logs_read q.page logs r.over r.adds in
    record {
      over = m.over;
      adds = m.adds;
      told = m.told ∙ ap (λ (s : Sums). sum_of s (read_logs q.page logs).rows) r.told ∙ sym (sum_append p.closed q.rows (read_logs q.page logs).rows);
      fits = λ h. m.fits (r.fits h);
    }

-- "a total over streams that equals the sum of the parts"
pub total_is_sum : (logs : List (List ℕ)) → (sheet_over logs).page.total ≡ sum_of nothing (sheet_over logs).rows
total_is_sum logs =
    let r = logs_read empty logs refl refl in
    shut (sheet_over logs).page r.over r.adds ∙ r.told

nothing_fits : sums_fit nothing ≡ true
unfolding half
nothing_fits = refl

pub total_fits : (logs : List (List ℕ)) → sums_fit (sheet_over logs).page.total ≡ true
total_fits logs = (logs_read empty logs refl refl).fits nothing_fits
