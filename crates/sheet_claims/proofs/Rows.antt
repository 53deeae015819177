-- What a record does to an open line: a start closes it, a number out of range ends it, a bad record ends the log; what was told before stands. Assumes nothing.
use mathlib.Core.Bool.{Bool, true, false, true≢false, cond, ◌&&◌}
use mathlib.Core.List.{List, [], ◌∷◌, ◌++◌}
use mathlib.Core.Logic.{◌⊎◌, inl, inr, ◌↔◌}
use mathlib.Core.Path.{◌≡◌, refl, sym, ap, ◌∙◌, subst}
use Prim.Native.Nat.{ℕ}
use native.Mathlib.Omega.{arith}
use borrow.Author.Tests.{eq-eqb}
use lib.Dec.{eqb}
use lib.Ieee.{Float}
use lib.ListN.{length}
use Rattle.positions.specs.Positions.{is_multiple, position_of, inside}
use Rattle.samples.specs.Samples.{little_from, sample_at}
use Rattle.lines.specs.declared.End.{End}
use Rattle.lines.specs.declared.End.TheVariants as end
use Rattle.lines.specs.Lines.{Figures, opened, grown, block_fits, figures_fit, Going, on, ended, check, started, with_block}
use Rattle.sheets.specs.Sheet.{Sums, plus, sums_fit, Current, line, Page, Row, quiet, row, word, Judged, end_row, bad, closed_row, with_total, with_line, start, block, block_on, judge}
use Rattle.sheet_claims.specs.Logs.{Reading, with_row, onward, judged_record, read_records}

-- a record that is read on: the sum before it, what is told, and the open line then
abbrev pub goes : Sums → Row → Figures → Judged
goes s r f = record { page = record { closed = s; total = plus s f; current = line f }; row = r; reads = true }

-- ---- where a record's floats are multiples and its payload is as long as it should be, the range decides
range_line : (p : Page) (s : Sums) (r : Row) (f : Figures) (fits : Bool) → with_line p s r (check fits end.Range (on f)) ≡ cond (fits && sums_fit (plus s f)) (goes s r f) (bad p end.Range)
unfolding check with_line with_total
range_line p s r f true = refl
range_line p s r f false = refl

multiple_line : (p : Page) (s : Sums) (r : Row) (f : Figures) (multiple fits : Bool) → multiple ≡ true
    → with_line p s r (check multiple end.Float (check fits end.Range (on f))) ≡ cond (fits && sums_fit (plus s f)) (goes s r f) (bad p end.Range)
unfolding check
multiple_line p s r f multiple fits e = ap (λ (t : Bool). with_line p s r (check t end.Float (check fits end.Range (on f)))) e ∙ range_line p s r f fits

-- a start's kind is 1 or 4
pub starts : (p : Page) (kind : ℕ) (payload : List ℕ) → (kind ≡ 1) ⊎ (kind ≡ 4) → judge p kind payload ≡ start p payload
unfolding judge
starts p kind payload (inl e) = rw e
starts p kind payload (inr e) = rw e

pub start_judged : (p : Page) (payload : List ℕ) → length payload ≡ 8 → is_multiple (sample_at payload 0) ≡ true
    → let v = position_of (sample_at payload 0) in
    start p payload ≡ cond (inside v && sums_fit (plus p.total (opened v))) (goes p.total (closed_row p.current) (opened v)) (bad p end.Range)
unfolding start
start_judged p payload l m =
    let x = sample_at payload 0 in
    let r = closed_row p.current in
    ap (λ (t : Bool). cond t (with_line p p.total r (started x)) (bad p end.Payload)) (eq-eqb (length payload) 8 l)
    ∙ multiple_line p p.total r (opened (position_of x)) (is_multiple x) (inside (position_of x)) m

-- the payload of a block, as numbers, and the line then
abbrev pub grown_block : Figures → List ℕ → Figures
grown_block f b = grown f (little_from b 0 4) (little_from b 4 4) (sample_at b 8) (sample_at b 16) (sample_at b 24)

abbrev pub multiples : List ℕ → Bool
multiples b = is_multiple (sample_at b 8) && (is_multiple (sample_at b 16) && is_multiple (sample_at b 24))

abbrev pub block_inside : Figures → List ℕ → Bool
block_inside f b = block_fits (little_from b 0 4) (sample_at b 8) (sample_at b 16) (sample_at b 24) && figures_fit (grown_block f b)

pub block_judged : (p : Page) (f : Figures) (payload : List ℕ) → p.current ≡ line f → length payload ≡ 32 → multiples payload ≡ true
    → judge p 3 payload ≡ cond (block_inside f payload && sums_fit (plus p.closed (grown_block f payload))) (goes p.closed quiet (grown_block f payload)) (bad p end.Range)
unfolding judge block_on block
block_judged p f b e l m =
    ap (λ (c : Current). block_on p c b) e
    ∙ ap (λ (t : Bool). cond t (with_line p p.closed quiet (with_block f (little_from b 0 4) (little_from b 4 4) (sample_at b 8) (sample_at b 16) (sample_at b 24))) (bad p end.Payload)) (eq-eqb (length b) 32 l)
    ∙ multiple_line p p.closed quiet (grown_block f b) (multiples b) (block_inside f b) m

-- "refusal 23 .. ends that log's line": exactly where a test of range fails
range_iff : (p : Page) (s : Sums) (r : Row) (f : Figures) (t : Bool) (j : Judged) → j ≡ cond t (goes s r f) (bad p end.Range) → (t ≡ false) ↔ ((j.row ≡ end_row p.current end.Range) × (j.reads ≡ false))
range_iff p s r f true j e = (λ h. absurd (true≢false h), λ h. sym (ap (λ (j : Judged). j.reads) e) ∙ h.1)
range_iff p s r f false j e = (λ h. (ap (λ (j : Judged). j.row) e, ap (λ (j : Judged). j.reads) e), λ h. refl)

pub range_when : (p : Page) (f : Figures) (payload : List ℕ) → p.current ≡ line f → length payload ≡ 32 → multiples payload ≡ true
    → ((block_inside f payload && sums_fit (plus p.closed (grown_block f payload))) ≡ false) ↔ (((judge p 3 payload).row ≡ row f end.Range) × ((judge p 3 payload).reads ≡ false))
range_when p f b e l m =
    subst (λ (c : Current). ((block_inside f b && sums_fit (plus p.closed (grown_block f b))) ≡ false) ↔ (((judge p 3 b).row ≡ end_row c end.Range) × ((judge p 3 b).reads ≡ false))) e
    (range_iff p p.closed quiet (grown_block f b) (block_inside f b && sums_fit (plus p.closed (grown_block f b))) (judge p 3 b) (block_judged p f b e l m))

-- a start's word stands where no line is open
pub start_range_when : (p : Page) (kind : ℕ) (payload : List ℕ) → (kind ≡ 1) ⊎ (kind ≡ 4) → length payload ≡ 8 → is_multiple (sample_at payload 0) ≡ true
    → let v = position_of (sample_at payload 0) in
    ((inside v && sums_fit (plus p.total (opened v))) ≡ false) ↔ (((judge p kind payload).row ≡ end_row p.current end.Range) × ((judge p kind payload).reads ≡ false))
start_range_when p kind b k l m =
    let v = position_of (sample_at b 0) in
    range_iff p p.total (closed_row p.current) (opened v) (inside v && sums_fit (plus p.total (opened v))) (judge p kind b) (starts p kind b k ∙ start_judged p b l m)

-- ---- "A construction or reset starts a new line and closes the old": nothing of the old line goes on
pub check_on : (t : Bool) (e : End) (g : Going) (f : Figures) → check t e g ≡ on f → (t ≡ true) × (g ≡ on f)
unfolding check
check_on true e g f q = (refl, q)
check_on false e g f q = absurd (let z : ◌≡◌ {A = ℕ} 0 1 = cc in omega arith)

pub same_on : (f g : Figures) → on f ≡ on g → f ≡ g
same_on f g e = cc

total_reads : (p : Page) (s : Sums) (r : Row) (f : Figures) → (with_total p s r f).reads ≡ true → with_total p s r f ≡ goes s r f
unfolding with_total
total_reads p s r f = go (sums_fit (plus s f))
  where
    go : (t : Bool) → (cond t (goes s r f) (bad p end.Range)).reads ≡ true → cond t (goes s r f) (bad p end.Range) ≡ goes s r f
    go true h = refl
    go false h = absurd (true≢false (sym h))

line_reads : (p : Page) (s : Sums) (r : Row) (f : Figures) (g : Going) → ((h : Figures) → g ≡ on h → f ≡ h) → (with_line p s r g).reads ≡ true → with_line p s r g ≡ goes s r f
unfolding with_line
line_reads p s r f (on h) k e = total_reads p s r h e ∙ ap (goes s r) (sym (k h refl))
line_reads p s r f (ended w) k e = absurd (true≢false (sym e))

start_reads : (p : Page) (payload : List ℕ) → (start p payload).reads ≡ true → start p payload ≡ goes p.total (closed_row p.current) (opened (position_of (sample_at payload 0)))
unfolding start
start_reads p payload = go (eqb (length payload) 8)
  where
    x : Float
    x = sample_at payload 0

    is : (h : Figures) → started x ≡ on h → opened (position_of x) ≡ h
    is h e =
        let a = check_on (is_multiple x) end.Float (check (inside (position_of x)) end.Range (on (opened (position_of x)))) h e in
        let b = check_on (inside (position_of x)) end.Range (on (opened (position_of x))) h a.1 in
        same_on (opened (position_of x)) h b.1

    go : (t : Bool) → (cond t (with_line p p.total (closed_row p.current) (started x)) (bad p end.Payload)).reads ≡ true
        → cond t (with_line p p.total (closed_row p.current) (started x)) (bad p end.Payload) ≡ goes p.total (closed_row p.current) (opened (position_of x))
    go true h = line_reads p p.total (closed_row p.current) (opened (position_of x)) (started x) is h
    go false h = absurd (true≢false (sym h))

pub start_closes : (p : Page) (f : Figures) (kind : ℕ) (payload : List ℕ) → p.current ≡ line f → (kind ≡ 1) ⊎ (kind ≡ 4) → (judge p kind payload).reads ≡ true
    → judge p kind payload ≡ goes p.total (row f end.Closed) (opened (position_of (sample_at payload 0)))
start_closes p f kind payload c k e =
    let s = starts p kind payload k in
    s ∙ start_reads p payload (sym (ap (λ (j : Judged). j.reads) s) ∙ e)
    ∙ ap (λ (c : Current). goes p.total (closed_row c) (opened (position_of (sample_at payload 0)))) c

-- ---- records that are all read on: the page that they leave, and the rows that they tell
unfoldable pub AllRead : Page → List (List ℕ) → Type 0
AllRead p [] = Unit
AllRead p (r ∷ rs) = ((judged_record p r).reads ≡ true) × AllRead (judged_record p r).page rs

unfoldable pub page_after : Page → List (List ℕ) → Page
page_after p [] = p
page_after p (r ∷ rs) = page_after (judged_record p r).page rs

unfoldable pub rows_of : Page → List (List ℕ) → List Row
rows_of p [] = []
rows_of p (r ∷ rs) = with_row (judged_record p r).row (rows_of (judged_record p r).page rs)

pub read_next : (p : Page) (r : List ℕ) (rs : List (List ℕ)) → (judged_record p r).reads ≡ true
    → read_records p (r ∷ rs) ≡ record { page = (read_records (judged_record p r).page rs).page; rows = with_row (judged_record p r).row (read_records (judged_record p r).page rs).rows }
unfolding read_records onward
read_next p r rs e =
    let j = judged_record p r in
    let n = read_records j.page rs in
    ap (λ (t : Bool). cond t (record { page = n.page; rows = with_row j.row n.rows }) (record { page = j.page; rows = with_row j.row [] })) e

row_append : (r : Row) (a b : List Row) → with_row r (a ++ b) ≡ with_row r a ++ b
row_append quiet a b = refl
row_append (row f e) a b = refl
row_append (word e) a b = refl

-- what was told before a record stands, whatever comes
pub rows_stand : (p : Page) (rs more : List (List ℕ)) → AllRead p rs
    → read_records p (rs ++ more) ≡ record { page = (read_records (page_after p rs) more).page; rows = rows_of p rs ++ (read_records (page_after p rs) more).rows }
unfolding AllRead page_after rows_of
rows_stand p [] more a = refl
rows_stand p (r ∷ rs) more a =
    let j = judged_record p r in
    let m = read_records (page_after j.page rs) more in
    read_next p r (rs ++ more) a.0
    ∙ ap (λ (n : Reading). record { page = n.page; rows = with_row j.row n.rows }) (rows_stand j.page rs more a.1)
    ∙ ap (λ (l : List Row). record { page = m.page; rows = l }) (row_append j.row (rows_of j.page rs) m.rows)

-- and nothing behind a bad record is read
pub bad_ends : (p : Page) (r : List ℕ) (rs : List (List ℕ)) → (judged_record p r).reads ≡ false → read_records p (r ∷ rs) ≡ record { page = (judged_record p r).page; rows = with_row (judged_record p r).row [] }
unfolding read_records onward
bad_ends p r rs e =
    let j = judged_record p r in
    let n = read_records j.page rs in
    ap (λ (t : Bool). cond t (record { page = n.page; rows = with_row j.row n.rows }) (record { page = j.page; rows = with_row j.row [] })) e

pub bad_after : (p : Page) (rs : List (List ℕ)) (r : List ℕ) (more : List (List ℕ)) → AllRead p rs → (judged_record (page_after p rs) r).reads ≡ false
    → (read_records p (rs ++ (r ∷ more))).rows ≡ rows_of p rs ++ with_row (judged_record (page_after p rs) r).row []
bad_after p rs r more a e = ap (λ (n : Reading). n.rows) (rows_stand p rs (r ∷ more) a) ∙ ap (λ (n : Reading). rows_of p rs ++ n.rows) (bad_ends (page_after p rs) r more e)
