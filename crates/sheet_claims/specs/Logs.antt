-- Document 02, R-13: the sheet over logs, and the log that our writer makes of a history. Definitions only.
use Rattle.std.specs.Prelude.{cond, List, [], ◌∷◌, ◌++◌, ℕ, Float, get_or, take, drop}
use Rattle.std.specs.Float.{binary64}
use Rattle.std.specs.Float.Ieee.{to_bits}
use Rattle.error.specs.Refusals.{Said, given, refused}
use Rattle.state.specs.declared.State.{State}
use Rattle.state.specs.Record.{step_now_of}
use Rattle.plan.specs.Plan.{increment_of}
use Rattle.process.specs.declared.Sizes.{Sizes}
use Rattle.process.specs.Block.{block_of}
use Rattle.asynchro.specs.Calls.{set_ratio, set_relative, set_chunk}
use Rattle.position.specs.History.{Start, constructed, restarted, Call, ratio, relative, chunk, block, left_by}
use Rattle.log_records.specs.Records.{two_at, record_of}
use Rattle.log_calls.specs.Payloads.{start_payload, block_payload, setting_payload}
use Rattle.log_claims.specs.Listing.{listing}
use Rattle.log_claims.specs.Claims.{joined, kept_parts}
use Rattle.sheets.specs.Sheet.{Sums, plus, Page, empty, Row, quiet, row, word, Judged, judge, log_end}

-- ---- a sheet over logs: the page then, and the rows, each told when its line ended
pub record Reading : Type 0 where
  pub page : Page
  pub rows : List Row

abbrev pub with_row : Row → List Row → List Row
with_row quiet rows = rows
with_row (row f e) rows = row f e ∷ rows
with_row (word e) rows = word e ∷ rows

unfoldable pub onward : Judged → Reading → Reading
onward j rest = cond j.reads (record { page = rest.page; rows = with_row j.row rest.rows }) (record { page = j.page; rows = with_row j.row [] })

-- a record's kind and payload, of its bytes
abbrev pub judged_record : Page → List ℕ → Judged
judged_record p r = judge p (get_or r 2 0) (take (two_at r 3) (drop 5 r))

-- a log, record by record; its end where none is left
unfoldable pub read_records : Page → List (List ℕ) → Reading
read_records p [] = record { page = (log_end p).page; rows = with_row (log_end p).row [] }
read_records p (r ∷ rs) = onward (judged_record p r) (read_records (judged_record p r).page rs)

-- "A log is read as salvage keeps its records; skipped stretches are no calls"
abbrev pub read_log : Page → List ℕ → Reading
read_log p log = read_records p (kept_parts log (listing log))

unfoldable pub read_logs : Page → List (List ℕ) → Reading
read_logs p [] = record { page = p; rows = [] }
read_logs p (log ∷ logs) = record { page = (read_logs (read_log p log).page logs).page; rows = (read_log p log).rows ++ (read_logs (read_log p log).page logs).rows }

-- "The sheet": over logs, from nothing
abbrev pub sheet_over : List (List ℕ) → Reading
sheet_over logs = read_logs empty logs

-- the sum of the rows' lines
unfoldable pub sum_of : Sums → List Row → Sums
sum_of s [] = s
sum_of s (quiet ∷ rows) = sum_of s rows
sum_of s (row f e ∷ rows) = sum_of (plus s f) rows
sum_of s (word e ∷ rows) = sum_of s rows

-- ---- "a log that our writer made of the accepted ones in order"
-- a construction's record is of kind 1, a reset's of kind 4
abbrev pub start_record : (s : State) → Start s → List ℕ
start_record s (constructed r m kind c channels fixed s' e) = record_of 1 (start_payload s'.index)
start_record s (restarted s' work e) = record_of 4 (start_payload s.index)

-- the record of a setting that was accepted
abbrev pub setting_record : Said Unit → ℕ → ℕ → List (List ℕ)
setting_record (given t) what value = record_of 2 (setting_payload what value) ∷ []
setting_record (refused n vs) what value = []

-- the record of a block that was accepted: the sizes that it answered, its step, its increment, and the index that it left
abbrev pub block_record : State → Said Sizes → Float → List (List ℕ)
block_record s (given z) index = record_of 3 (block_payload z.output z.input (step_now_of s) (increment_of s) index) ∷ []
block_record s (refused n vs) index = []

abbrev pub call_records : State → Call → List (List ℕ)
call_records s (ratio r ramp) = setting_record (set_ratio s r ramp).said (cond ramp 2 1) (to_bits binary64 r)
call_records s (relative rel ramp) = setting_record (set_relative s rel ramp).said (cond ramp 4 3) (to_bits binary64 rel)
call_records s (chunk n) = setting_record (set_chunk s n).said 5 n
call_records s (block frames mask table input output work) =
    block_record s (block_of s frames mask table input output work).said (left_by s (block frames mask table input output work)).index

unfoldable pub calls_records : State → List Call → List (List ℕ)
calls_records s [] = []
calls_records s (c ∷ cs) = call_records s c ++ calls_records (left_by s c) cs

-- the log of a history: its records one after the other
abbrev pub log_of : (s : State) → Start s → List Call → List ℕ
log_of s start cs = joined (start_record s start ∷ calls_records s cs)
