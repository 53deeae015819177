-- The log of a history is read as the line along its calls. Assumes nothing.
use mathlib.Core.Bool.{Bool, true, false, cond}
use mathlib.Core.List.{List, [], ◌∷◌, ◌++◌}
use mathlib.Core.Logic.{◌⊎◌, inl, inr}
use mathlib.Core.Path.{◌≡◌, refl, sym, ap, ◌∙◌, subst}
use Prim.Native.Nat.{ℕ, ◌<◌, ◌^◌}
use native.Mathlib.Nat.{lt_of_le_of_lt}
use native.Mathlib.Omega.{arith}
use borrow.Author.Tests.{eq-eqb}
use lib.Dec.{eqb, lit<}
use lib.Ieee.{Float, binary64}
use lib.Ieee.Bits.{of_bits-fits}
use lib.Ieee.Fits.{div-fits}
use lib.ListN.{length}
use Rattle.exact.specs.Doubles.{◌-f◌, ◌/f◌, count, zero_f}
use Rattle.error.specs.Refusals.{Said, given, refused}
use Rattle.samples.specs.Samples.{little_from, sample_at}
use Rattle.log_records.specs.Records.{is_kind, record_of}
use Rattle.log_calls.specs.Payloads.{start_payload, increment, block_payload, setting_payload}
use Rattle.log_claims.specs.Claims.{AllGood}
use Rattle.log_claims.proofs.Copies.{record_good}
use Rattle.state.specs.declared.State.{State}
use Rattle.state.specs.Record.{step_now_of, step_then_of}
use Rattle.state.proofs.Valid.{valid}
use Rattle.plan.specs.Plan.{increment_of, planned}
use Rattle.process.specs.declared.Sizes.{Sizes}
use Rattle.process.specs.Block.{block_end, block_of}
use Rattle.asynchro.specs.Calls.{set_ratio, set_relative, set_chunk}
use Rattle.position.specs.History.{Start, constructed, restarted, Call, ratio, relative, chunk, block, left_by}
use Rattle.position.proofs.Tests.{Double}
use Rattle.position.proofs.Steps.{step_now}
use Rattle.position.proofs.Accepted.{Passed, passed}
use Rattle.position.proofs.Keeps.{start_index, block_double}
use Rattle.lines.specs.declared.End.{End}
use Rattle.lines.specs.declared.End.TheVariants as end
use Rattle.lines.specs.Lines.{Figures, Going, on, ended, started, with_block}
use Rattle.sheets.specs.Sheet.{Sums, nothing, plus, sums_fit, Current, none, line, Page, empty, quiet, row, Judged, closing, end_row, bad, closed_row, with_total, with_line, start, block as blockOfPage, block_on, judge, log_end}
use Rattle.sheet_claims.specs.Live.{grown_by, line_after, line_along, live_line}
use Rattle.sheet_claims.specs.Logs.{Reading, with_row, judged_record, read_records, read_log, read_logs, sheet_over, start_record, setting_record, block_record, calls_records, log_of}
use Rattle.sheet_claims.proofs.Rows.{goes, read_next, bad_ends, starts, same_on}
use Rattle.sheet_claims.proofs.Alone.{Sound, started_sound, call_sound, alone_is, alone_fits}
use Rattle.sheet_claims.proofs.Payloads.{start_length, start_back, setting_length, block_length, output_back, input_back, step_back, increment_back, index_back, record_judged, good_parts}

-- ---- what is read of a block that was accepted
-- its numbers are of four bytes, and its floats doubles
record Small (s : State) (index : Float) : Type 0 where
  output : s.output < 2 ^ 32
  input : s.input < 2 ^ 32
  step : Double (step_now_of s)
  increments : Double (increment_of s)
  after : Double index

increment_double : (n : ℕ) (x : Float) → Double x → Double (cond (eqb n 0) zero_f x)
increment_double n x d = go (eqb n 0)
  where
    go : (t : Bool) → Double (cond t zero_f x)
    go true = of_bits-fits binary64 0
    go false = d

block_small : (s t : State) → Passed s t → Small s t.index
block_small s t p =
    let v = valid s p.state in
    record {
      output = lt_of_le_of_lt v.output_few (lit< tt);
      input = lt_of_le_of_lt v.input_few (lit< tt);
      step = (step_now s p.state).number.1;
      increments = increment_double s.output ((step_then_of s -f step_now_of s) /f count s.output) (div-fits binary64 (step_then_of s -f step_now_of s) (count s.output));
      after = block_double s t p;
    }

-- the increment of a record is written as it is
increment_once : (n : ℕ) (x : Float) → increment n (cond (eqb n 0) zero_f x) ≡ cond (eqb n 0) zero_f x
increment_once n x = go (eqb n 0)
  where
    go : (t : Bool) → cond t zero_f (cond t zero_f x) ≡ cond t zero_f x
    go true = refl
    go false = refl

abbrev payload_of : State → Float → List ℕ
payload_of s index = block_payload s.output s.input (step_now_of s) (increment_of s) index

-- the line that the block's bytes tell is the one that its numbers do
block_line : (s : State) (index : Float) (f : Figures) → Small s index
    → let b = payload_of s index in
    with_block f (little_from b 0 4) (little_from b 4 4) (sample_at b 8) (sample_at b 16) (sample_at b 24) ≡ with_block f s.output s.input (step_now_of s) (increment_of s) index
block_line s index f z =
    let n = s.output in
    let c = s.input in
    let t = step_now_of s in
    let d = increment_of s in
    let b = payload_of s index in
    let once : increment n d ≡ d = increment_once n ((step_then_of s -f step_now_of s) /f count n) in
    ap (λ (x : ℕ). with_block f x (little_from b 4 4) (sample_at b 8) (sample_at b 16) (sample_at b 24)) (output_back n c t d index z.output)
    ∙ ap (λ (x : ℕ). with_block f n x (sample_at b 8) (sample_at b 16) (sample_at b 24)) (input_back n c t d index z.input)
    ∙ ap (λ (x : Float). with_block f n c x (sample_at b 16) (sample_at b 24)) (step_back n c t d index z.step)
    ∙ ap (λ (x : Float). with_block f n c t x (sample_at b 24)) (increment_back n c t d index (subst Double (sym once) z.increments) ∙ once)
    ∙ ap (with_block f n c t d) (index_back n c t d index z.after)

-- a page with an open line
abbrev pub open_page : Sums → Figures → Page
open_page c f = record { closed = c; total = plus c f; current = line f }

block_record_lem : (c : Sums) (s : State) (index : Float) (f : Figures) → Small s index
    → judged_record (open_page c f) (record_of 3 (payload_of s index)) ≡ with_line (open_page c f) c quiet (with_block f s.output s.input (step_now_of s) (increment_of s) index)
unfolding judge block_on blockOfPage
block_record_lem c s index f z =
    let p = open_page c f in
    let b = payload_of s index in
    let long = block_length s.output s.input (step_now_of s) (increment_of s) index in
    record_judged p 3 b refl (omega arith)
    ∙ ap (λ (t : Bool). cond t (with_line p c quiet (with_block f (little_from b 0 4) (little_from b 4 4) (sample_at b 8) (sample_at b 16) (sample_at b 24))) (bad p end.Payload)) (eq-eqb (length b) 32 long)
    ∙ ap (with_line p c quiet) (block_line s index f z)

-- ---- a line along calls: its figures as they last stood, before the call that ended it if one did, and the word that it ends with
abbrev pub stood_by : Figures → Going → (Figures → Figures × End) → Figures × End
stood_by f (on h) next = next h
stood_by f (ended e) next = (f, e)

unfoldable pub stood : State → Figures → List Call → Figures × End
stood s f [] = (f, end.Open)
stood s f (c ∷ cs) = stood_by f (line_after s (on f) c) (λ h. stood (left_by s c) h cs)

-- the total fits with the line added to what has ended, at the start and after each call
abbrev pub FitsBy : Going → (Figures → Type 0) → Type 0
FitsBy (on h) next = next h
FitsBy (ended e) next = Unit

unfoldable pub FitsAlong : Sums → State → Figures → List Call → Type 0
FitsAlong c s f [] = sums_fit (plus c f) ≡ true
FitsAlong c s f (k ∷ cs) = (sums_fit (plus c f) ≡ true) × FitsBy (line_after s (on f) k) (λ h. FitsAlong c (left_by s k) h cs)

fits_now : (c : Sums) (s : State) (f : Figures) (cs : List Call) → FitsAlong c s f cs → sums_fit (plus c f) ≡ true
unfolding FitsAlong
fits_now c s f [] h = h
fits_now c s f (k ∷ cs) h = h.0

-- a line that has ended: it is told, and it is in the sum
abbrev pub over : Sums → Figures × End → Reading
over c l = record { page = record { closed = plus c l.0; total = plus c l.0; current = none }; rows = row l.0 l.1 ∷ [] }

-- reading on from the page with the line open
abbrev Reads : Sums → List Call → Type 0
Reads c cs = (s : State) (f : Figures) → FitsAlong c s f cs → read_records (open_page c f) (calls_records s cs) ≡ over c (stood s f cs)

-- a setting says nothing
setting_quiet : (p : Page) (said : Said Unit) (what value : ℕ) (more : List (List ℕ)) → read_records p (setting_record said what value ++ more) ≡ read_records p more
unfolding judge
setting_quiet p (given t) what value more =
    let j = record_judged p 2 (setting_payload what value) refl (omega (arith, setting_length what value)) in
    read_next p (record_of 2 (setting_payload what value)) more (ap (λ (j : Judged). j.reads) j)
    ∙ ap (λ (j : Judged). record { page = (read_records j.page more).page; rows = with_row j.row (read_records j.page more).rows }) j
setting_quiet p (refused n vs) what value more = refl

-- a block that was accepted
module _ (c : Sums) (s t : State) (f : Figures) (cs : List Call) (z : Small s t.index) (next : Reads c cs) where
  given_reads : (g : Going) → with_block f s.output s.input (step_now_of s) (increment_of s) t.index ≡ g → FitsBy g (λ h. FitsAlong c t h cs)
      → read_records (open_page c f) (record_of 3 (payload_of s t.index) ∷ calls_records t cs) ≡ over c (stood_by f g (λ h. stood t h cs))
  unfolding with_line with_total
  given_reads (on h) e fits =
      let p = open_page c f in
      let r = record_of 3 (payload_of s t.index) in
      let more = calls_records t cs in
      let j : judged_record p r ≡ goes c quiet h =
      block_record_lem c s t.index f z ∙ ap (with_line p c quiet) e ∙ ap (λ (b : Bool). cond b (goes c quiet h) (bad p end.Range)) (fits_now c t h cs fits) in
      read_next p r more (ap (λ (j : Judged). j.reads) j)
      ∙ ap (λ (j : Judged). record { page = (read_records j.page more).page; rows = with_row j.row (read_records j.page more).rows }) j
      ∙ next t h fits
  given_reads (ended w) e fits =
      let p = open_page c f in
      let r = record_of 3 (payload_of s t.index) in
      let j : judged_record p r ≡ bad p w = block_record_lem c s t.index f z ∙ ap (with_line p c quiet) e in
      bad_ends p r (calls_records t cs) (ap (λ (j : Judged). j.reads) j) ∙ ap (λ (j : Judged). record { page = j.page; rows = with_row j.row [] }) j

block_reads : (c : Sums) (s : State) (f : Figures) (frames mask : ℕ) (table input output work : List Float) (cs : List Call) (r : Said State)
    → planned s frames mask (length table) (length input) (length output) (length work) ≡ r → Reads c cs
    → let o = block_end s frames mask table input output work r in
    FitsBy (grown_by s (on f) o.said o.state.index) (λ h. FitsAlong c o.state h cs)
    → read_records (open_page c f) (block_record s o.said o.state.index ++ calls_records o.state cs)
    ≡ over c (stood_by f (grown_by s (on f) o.said o.state.index) (λ h. stood o.state h cs))
block_reads c s f frames mask table input output work cs (given t) e next fits =
    given_reads c s t f cs (block_small s t (passed s t frames mask (length table) (length input) (length output) (length work) e)) next _ refl fits
block_reads c s f frames mask table input output work cs (refused n vs) e next fits = next s f fits

calls_read : (c : Sums) (cs : List Call) → Reads c cs
unfolding read_records calls_records stood FitsAlong log_end
calls_read c [] s f fits = refl
calls_read c (ratio r ramp ∷ cs) s f fits = setting_quiet (open_page c f) (set_ratio s r ramp).said _ _ _ ∙ calls_read c cs (set_ratio s r ramp).state f fits.1
calls_read c (relative r ramp ∷ cs) s f fits = setting_quiet (open_page c f) (set_relative s r ramp).said _ _ _ ∙ calls_read c cs (set_relative s r ramp).state f fits.1
calls_read c (chunk n ∷ cs) s f fits = setting_quiet (open_page c f) (set_chunk s n).said _ _ _ ∙ calls_read c cs (set_chunk s n).state f fits.1
calls_read c (block frames mask table input output work ∷ cs) s f fits =
    block_reads c s f frames mask table input output work cs _ refl (calls_read c cs) fits.1

-- ---- a history's log, from any page: its start closes the line that was open, and what has ended then is what the total was
abbrev pub history_read : Page → Going → (Figures → Figures × End) → Reading
history_read p (on f) next = record { page = (over p.total (next f)).page; rows = with_row (closed_row p.current) (over p.total (next f)).rows }
history_read p (ended e) next = record { page = closing p; rows = with_row (end_row p.current e) [] }

start_record_lem : (p : Page) (kind : ℕ) (x : Float) → is_kind kind ≡ true → (kind ≡ 1) ⊎ (kind ≡ 4) → Double x
    → judged_record p (record_of kind (start_payload x)) ≡ with_line p p.total (closed_row p.current) (started x)
unfolding start
start_record_lem p kind x i k d =
    let b = start_payload x in
    let long = start_length x in
    record_judged p kind b i (omega arith) ∙ starts p kind b k
    ∙ ap (λ (t : Bool). cond t (with_line p p.total (closed_row p.current) (started (sample_at b 0))) (bad p end.Payload)) (eq-eqb (length b) 8 long)
    ∙ ap (λ (x : Float). with_line p p.total (closed_row p.current) (started x)) (start_back x d)

-- after each call the total fits with the line added
abbrev pub Fits : Sums → State → List Call → Type 0
Fits c s cs = FitsBy (started s.index) (λ h. FitsAlong c s h cs)

records_read : (p : Page) (s : State) (kind : ℕ) (cs : List Call) (g : Going) → is_kind kind ≡ true → (kind ≡ 1) ⊎ (kind ≡ 4) → Double s.index → started s.index ≡ g → FitsBy g (λ h. FitsAlong p.total s h cs)
    → read_records p (record_of kind (start_payload s.index) ∷ calls_records s cs) ≡ history_read p g (λ h. stood s h cs)
unfolding with_line with_total
records_read p s kind cs (on f) i k d e fits =
    let c = p.total in
    let o = closed_row p.current in
    let r = record_of kind (start_payload s.index) in
    let more = calls_records s cs in
    let j : judged_record p r ≡ goes c o f =
    start_record_lem p kind s.index i k d ∙ ap (with_line p c o) e ∙ ap (λ (b : Bool). cond b (goes c o f) (bad p end.Range)) (fits_now c s f cs fits) in
    read_next p r more (ap (λ (j : Judged). j.reads) j)
    ∙ ap (λ (j : Judged). record { page = (read_records j.page more).page; rows = with_row j.row (read_records j.page more).rows }) j
    ∙ ap (λ (n : Reading). record { page = n.page; rows = with_row o n.rows }) (calls_read c cs s f fits)
records_read p s kind cs (ended w) i k d e fits =
    let r = record_of kind (start_payload s.index) in
    let j : judged_record p r ≡ bad p w = start_record_lem p kind s.index i k d ∙ ap (with_line p p.total (closed_row p.current)) e in
    bad_ends p r (calls_records s cs) (ap (λ (j : Judged). j.reads) j) ∙ ap (λ (j : Judged). record { page = j.page; rows = with_row j.row [] }) j

history_read_lem : (p : Page) (s : State) (start : Start s) (cs : List Call) → Fits p.total s cs → read_records p (start_record s start ∷ calls_records s cs) ≡ history_read p (started s.index) (λ h. stood s h cs)
history_read_lem p s (constructed r m kind c channels fixed s' e) cs fits = records_read p s 1 cs _ refl (inl refl) (start_index s (constructed r m kind c channels fixed s' e)) refl fits
history_read_lem p s (restarted s' work e) cs fits = records_read p s 4 cs _ refl (inr refl) (start_index s (restarted s' work e)) refl fits

-- its records are good, so that salvage keeps them all
setting_good : (said : Said Unit) (what value : ℕ) (more : List (List ℕ)) → AllGood more → AllGood (setting_record said what value ++ more)
unfolding AllGood
setting_good (given t) what value more g = (record_good 2 (setting_payload what value) refl (omega (arith, setting_length what value)), g)
setting_good (refused n vs) what value more g = g

block_good : (s : State) (said : Said Sizes) (index : Float) (more : List (List ℕ)) → AllGood more → AllGood (block_record s said index ++ more)
unfolding AllGood
block_good s (given z) index more g =
    (record_good 3 (block_payload z.output z.input (step_now_of s) (increment_of s) index) refl (omega (arith, block_length z.output z.input (step_now_of s) (increment_of s) index)), g)
block_good s (refused n vs) index more g = g

calls_good : (s : State) (cs : List Call) → AllGood (calls_records s cs)
unfolding calls_records AllGood
calls_good s [] = tt
calls_good s (ratio r ramp ∷ cs) = setting_good (set_ratio s r ramp).said _ _ _ (calls_good (set_ratio s r ramp).state cs)
calls_good s (relative r ramp ∷ cs) = setting_good (set_relative s r ramp).said _ _ _ (calls_good (set_relative s r ramp).state cs)
calls_good s (chunk n ∷ cs) = setting_good (set_chunk s n).said _ _ _ (calls_good (set_chunk s n).state cs)
calls_good s (block frames mask table input output work ∷ cs) =
    block_good s (block_of s frames mask table input output work).said _ _ (calls_good (block_of s frames mask table input output work).state cs)

history_good : (s : State) (start : Start s) (cs : List Call) → AllGood (start_record s start ∷ calls_records s cs)
unfolding AllGood
history_good s (constructed r m kind c channels fixed s' e) cs = (record_good 1 (start_payload s.index) refl (omega (arith, start_length s.index)), calls_good s cs)
history_good s (restarted s' work e) cs = (record_good 4 (start_payload s.index) refl (omega (arith, start_length s.index)), calls_good s cs)

pub log_read : (p : Page) (s : State) (start : Start s) (cs : List Call) → Fits p.total s cs → read_log p (log_of s start cs) ≡ history_read p (started s.index) (λ h. stood s h cs)
log_read p s start cs fits =
    ap (read_records p) (good_parts (start_record s start ∷ calls_records s cs) (history_good s start cs)) ∙ history_read_lem p s start cs fits

-- ---- the line along live calls: once ended it stays so, and where it goes on it is the one that stood last
stays_ended : (s : State) (e : End) (cs : List Call) → line_along s (ended e) cs ≡ ended e
unfolding line_along
stays_ended s e [] = refl
stays_ended s e (ratio r ramp ∷ cs) = stays_ended (set_ratio s r ramp).state e cs
stays_ended s e (relative r ramp ∷ cs) = stays_ended (set_relative s r ramp).state e cs
stays_ended s e (chunk n ∷ cs) = stays_ended (set_chunk s n).state e cs
stays_ended s e (block frames mask table input output work ∷ cs) = stays_ended (block_of s frames mask table input output work).state e cs

on_or_ended : (f : Figures) (e : End) → ended e ≡ on f → ⊥
on_or_ended f e h = let z : ◌≡◌ {A = ℕ} 0 1 = cc in omega arith

along_on : (s : State) (f h : Figures) (cs : List Call) → line_along s (on f) cs ≡ on h → stood s f cs ≡ (h, end.Open)
unfolding line_along stood
along_on s f h [] e = ap (λ (f : Figures). (f, end.Open)) (same_on f h e)
along_on s f h (c ∷ cs) e = go (line_after s (on f) c) e (λ g. along_on (left_by s c) g h cs)
  where
    go : (g : Going) → line_along (left_by s c) g cs ≡ on h → ((g : Figures) → line_along (left_by s c) (on g) cs ≡ on h → stood (left_by s c) g cs ≡ (h, end.Open))
        → stood_by f g (λ g. stood (left_by s c) g cs) ≡ (h, end.Open)
    go (on g) e next = next g e
    go (ended w) e next = absurd (on_or_ended h w (sym (stays_ended (left_by s c) w cs) ∙ e))

along_ended : (s : State) (f : Figures) (w : End) (cs : List Call) → line_along s (on f) cs ≡ ended w → (stood s f cs).1 ≡ w
unfolding line_along stood
along_ended s f w [] e = absurd (on_or_ended f w (sym e))
along_ended s f w (c ∷ cs) e = go (line_after s (on f) c) e (λ g. along_ended (left_by s c) g w cs)
  where
    go : (g : Going) → line_along (left_by s c) g cs ≡ ended w → ((g : Figures) → line_along (left_by s c) (on g) cs ≡ ended w → (stood (left_by s c) g cs).1 ≡ w)
        → (stood_by f g (λ g. stood (left_by s c) g cs)).1 ≡ w
    go (on g) e next = next g e
    go (ended v) e next = let h = sym (stays_ended (left_by s c) v cs) ∙ e in cc

-- ---- a log of a history, read from any page: the line that was open is closed, and the history's is told as it is along the live calls
pub log_line_from : (p : Page) (s : State) (start : Start s) (cs : List Call) (f : Figures) → Fits p.total s cs → live_line s cs ≡ on f
    → read_log p (log_of s start cs) ≡ record { page = (over p.total (f, end.Open)).page; rows = with_row (closed_row p.current) (row f end.Open ∷ []) }
log_line_from p s start cs f fits e = log_read p s start cs fits ∙ go (started s.index) e
  where
    go : (g : Going) → line_along s g cs ≡ on f
        → history_read p g (λ h. stood s h cs) ≡ record { page = (over p.total (f, end.Open)).page; rows = with_row (closed_row p.current) (row f end.Open ∷ []) }
    go (on g) e = ap (λ (l : Figures × End). record { page = (over p.total l).page; rows = with_row (closed_row p.current) (row l.0 l.1 ∷ []) }) (along_on s g f cs e)
    go (ended w) e = absurd (on_or_ended f w (sym (stays_ended s w cs) ∙ e))

-- from an empty page the total is that line alone, which fits
fits_alone : (s : State) (f : Figures) (cs : List Call) → Sound f → FitsAlong nothing s f cs
unfolding FitsAlong
fits_alone s f [] k = alone_fits f k
fits_alone s f (c ∷ cs) k = (alone_fits f k, go (line_after s (on f) c) refl (λ h. fits_alone (left_by s c) h cs))
  where
    go : (g : Going) → line_after s (on f) c ≡ g → ((h : Figures) → Sound h → FitsAlong nothing (left_by s c) h cs) → FitsBy g (λ h. FitsAlong nothing (left_by s c) h cs)
    go (on h) e next = next h (call_sound s f h c k e)
    go (ended w) e next = tt

pub fits_first : (s : State) (cs : List Call) → Fits nothing s cs
fits_first s cs = go (started s.index) refl
  where
    go : (g : Going) → started s.index ≡ g → FitsBy g (λ h. FitsAlong nothing s h cs)
    go (on h) e = fits_alone s h cs (started_sound s.index h e)
    go (ended w) e = tt

pub log_line : (s : State) (start : Start s) (cs : List Call) (f : Figures) → live_line s cs ≡ on f → read_log empty (log_of s start cs) ≡ over nothing (f, end.Open)
log_line s start cs f e = log_line_from empty s start cs f (fits_first s cs) e

-- a line that a call ended: one row, with the line as it stood before that call and the word; where the start itself is bad, the word alone
abbrev pub stood_last : State → Going → List Call → Current
stood_last s (on f) cs = line (stood s f cs).0
stood_last s (ended e) cs = none

pub log_ended : (s : State) (start : Start s) (cs : List Call) (e : End) → live_line s cs ≡ ended e → (read_log empty (log_of s start cs)).rows ≡ end_row (stood_last s (started s.index) cs) e ∷ []
log_ended s start cs w e = ap (λ (r : Reading). r.rows) (log_read empty s start cs (fits_first s cs)) ∙ go (started s.index) e
  where
    go : (g : Going) → line_along s g cs ≡ ended w → (history_read empty g (λ h. stood s h cs)).rows ≡ end_row (stood_last s g cs) w ∷ []
    go (on f) e = ap (λ (v : End). row (stood s f cs).0 v ∷ []) (along_ended s f w cs e)
    go (ended v) e = let h = sym (stays_ended s v cs) ∙ e in cc

-- ---- "The sheet" over a history's log alone
pub sheet_line : (s : State) (start : Start s) (cs : List Call) (f : Figures) → live_line s cs ≡ on f → sheet_over (log_of s start cs ∷ []) ≡ over nothing (f, end.Open)
unfolding read_logs
sheet_line s start cs f e = ap (λ (r : Reading). record { page = r.page; rows = r.rows ++ [] }) (log_line s start cs f e)

-- and its total is that line's own counts and positions
along_sound : (s : State) (f h : Figures) (cs : List Call) → Sound f → line_along s (on f) cs ≡ on h → Sound h
unfolding line_along
along_sound s f h [] k e = subst Sound (same_on f h e) k
along_sound s f h (c ∷ cs) k e = go (line_after s (on f) c) refl e (λ g. along_sound (left_by s c) g h cs)
  where
    go : (g : Going) → line_after s (on f) c ≡ g → line_along (left_by s c) g cs ≡ on h → ((g : Figures) → Sound g → line_along (left_by s c) (on g) cs ≡ on h → Sound h) → Sound h
    go (on g) q e next = next g (call_sound s f g c k q) e
    go (ended w) q e next = absurd (on_or_ended h w (sym (stays_ended (left_by s c) w cs) ∙ e))

pub live_sound : (s : State) (cs : List Call) (f : Figures) → live_line s cs ≡ on f → Sound f
live_sound s cs f e = go (started s.index) refl e
  where
    go : (g : Going) → started s.index ≡ g → line_along s g cs ≡ on f → Sound f
    go (on g) q e = along_sound s g f cs (started_sound s.index g q) e
    go (ended w) q e = absurd (on_or_ended f w (sym (stays_ended s w cs) ∙ e))

pub sheet_total : (s : State) (start : Start s) (cs : List Call) (f : Figures) → live_line s cs ≡ on f
    → (sheet_over (log_of s start cs ∷ [])).page.total ≡ record { frames = f.frames; blocks = f.blocks; exactly = f.exactly; stored = f.stored }
sheet_total s start cs f e = ap (λ (r : Reading). r.page.total) (sheet_line s start cs f e) ∙ alone_is f (live_sound s cs f e)
