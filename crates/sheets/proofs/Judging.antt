-- What a record does to the sheet, step by step. Assumes nothing.
use mathlib.Core.Bool.{Bool, true, false, cond, ◌&&◌}
use mathlib.Core.List.{List}
use mathlib.Core.Logic.{◌⊎◌, inl, inr}
use mathlib.Core.Path.{◌≡◌, refl, sym, ap, ◌∙◌, subst}
use Prim.Native.Nat.{ℕ, ◌+◌, ◌*◌}
use native.Mathlib.Omega.{arith}
use lib.Dec.{eqb}
use lib.ListN.{length, get_or}
use borrow.Author.Tests.{eq-eqb, ne_eqb}
use Rattle.exact.specs.Whole.{Whole, ◌⊕◌}
use Rattle.samples.specs.Samples.{little_from, sample_at}
use Rattle.big.specs.declared.Big.{Big}
use Rattle.std.specs.Prelude.{Option, Some, None, Result, Ok, Err}
use Rattle.positions.specs.Positions.{plain, held_in, inside, HeldIf, IsHeld}
use Rattle.big.specs.Value.{value_of}
use Rattle.positions.proofs.Holds.{half_above, held_plain, same_plain, inside_same}
use Rattle.lines.specs.declared.End.{End}
use Rattle.lines.specs.declared.End.TheVariants as end
use Rattle.lines.specs.declared.Line.{Line}
use Rattle.lines.specs.Lines.{Figures, is_count, started, with_block, figures_of, going_of}
use Rattle.sheets.specs.declared.Total.{Total}
use Rattle.sheets.specs.declared.Sheet.{Sheet}
use Rattle.sheets.specs.Sheet.{Sums, nothing, plus, sums_fit, none, line, Page, empty, Row, quiet, row, word, Judged, end_row, line_row, bad, closed_row, with_total, with_line, start, block, block_on, judge, sums_of, current_of, page_of}
use Rattle.sheets.specs.Steps.{SumIf, SummedBy, CountedBy, PlacedBy}

-- ---- the total with a line
module _ (t : Total) (l : Line) where
  abbrev with : Sums
  with = plus (sums_of t) (figures_of l)

  arranged : (E S : Bool) → (E && S) ≡ (E && (S && (true && true)))
  arranged false S = refl
  arranged true false = refl
  arranged true true = refl

  pub sum_on : (r : Option Total) (m : Total) (e s : Option Big) (res : Option Total) → r ≡ Some m → CountedBy t l r → IsHeld (held_in t.exactly ⊕ held_in l.exactly) e → IsHeld (held_in t.stored ⊕ held_in l.stored) s
      → PlacedBy m e s res → SummedBy t l res
  sum_on r m e s res q h he hs pl =
      let k = subst (CountedBy t l) q h in
      let v = held_in t.exactly ⊕ held_in l.exactly in
      let w = held_in t.stored ⊕ held_in l.stored in
      let P : Bool → ℕ → ℕ → Type 0 = λ ok fr bl. SumIf ok (record { frames = fr; blocks = bl; exactly = plain v; stored = plain w }) res in
      let a : P (inside v && inside w) m.frames m.blocks = pl (inside v) (inside w) v w he hs in
      let b = subst (λ (x : ℕ). P (inside v && inside w) x m.blocks) k.0 a in
      let c = subst (λ (x : ℕ). P (inside v && inside w) (t.frames + l.frames) x) k.1 b in
      let o : (inside v && inside w) ≡ sums_fit with =
      arranged (inside v) (inside w)
      ∙ ap (λ (x : Bool). x && (inside w && (true && true))) (inside_same v (plain v) (same_plain v))
      ∙ ap (λ (x : Bool). inside (plain v) && (x && (true && true))) (inside_same w (plain w) (same_plain w))
      ∙ ap (λ (x : Bool). inside (plain v) && (inside (plain w) && (x && true))) (sym k.2)
      ∙ ap (λ (x : Bool). inside (plain v) && (inside (plain w) && (is_count (t.frames + l.frames) && x))) (sym k.3) in
      subst (λ (x : Bool). P x (t.frames + l.frames) (t.blocks + l.blocks)) o c

-- ---- a turn by its three parts
pub turned : (p q : Page) (r t : Row) (b : Bool) → p ≡ q → r ≡ t → ◌≡◌ {A = Judged} (record { page = p; row = r; reads = b }) (record { page = q; row = t; reads = b })
turned p q r t b e f = ap (λ (x : Page). record { page = x; row = r; reads = b }) e ∙ ap (λ (x : Row). record { page = q; row = x; reads = b }) f

module _ (p : Page) (s : Sums) (r : Row) (f : Figures) where
  pub total_fits : (t : Option Total) (m : Total) → t ≡ Some m → SumIf (sums_fit (plus s f)) (plus s f) t
      → ◌≡◌ {A = Judged} (record { page = record { closed = s; total = sums_of m; current = line f }; row = r; reads = true }) (with_total p s r f)
  unfolding with_total
  total_fits t m q h =
      let k = subst (SumIf (sums_fit (plus s f)) (plus s f)) q h in
      let g : Sums → Judged = λ x. record { page = record { closed = s; total = x; current = line f }; row = r; reads = true } in
      ap g k.1 ∙ sym (ap (λ (b : Bool). cond b (g (plus s f)) (bad p end.Range)) k.0)

  pub total_over : (t : Option Total) (j : Judged) → t ≡ None → SumIf (sums_fit (plus s f)) (plus s f) t → j ≡ bad p end.Range → j ≡ with_total p s r f
  unfolding with_total
  total_over t j q h e =
      let g : Judged = record { page = record { closed = s; total = plus s f; current = line f }; row = r; reads = true } in
      e ∙ sym (ap (λ (b : Bool). cond b g (bad p end.Range)) (subst (SumIf (sums_fit (plus s f)) (plus s f)) q h))

module _ (p : Page) (s : Sums) (r : Row) where
  pub line_on : (g : Result Line End) (l : Line) (j : Judged) → g ≡ Ok l → j ≡ with_total p s r (figures_of l) → j ≡ with_line p s r (going_of g)
  unfolding with_line
  line_on g l j q h = h ∙ sym (ap (λ (x : Result Line End). with_line p s r (going_of x)) q)

  pub line_ended : (g : Result Line End) (e : End) (j : Judged) → g ≡ Err e → j ≡ bad p e → j ≡ with_line p s r (going_of g)
  unfolding with_line
  line_ended g e j q h = h ∙ sym (ap (λ (x : Result Line End). with_line p s r (going_of x)) q)

-- ---- a payload's four bytes
pub four_bytes : (bs : List ℕ) (at a b c d : ℕ) → a ≡ get_or bs at 0 → b ≡ get_or bs (at + 1) 0 → c ≡ get_or bs (at + 2) 0 → d ≡ get_or bs (at + 3) 0
    → a + 256 * (b + 256 * (c + 256 * d)) ≡ little_from bs at 4
unfolding little_from
four_bytes bs at a b c d p q r s =
    let two : at + 1 + 1 ≡ at + 2 = omega arith in
    let three : at + 1 + 1 + 1 ≡ at + 3 = omega arith in
    omega (arith, p, q, r ∙ ap (λ (n : ℕ). get_or bs n 0) (sym two), s ∙ ap (λ (n : ℕ). get_or bs n 0) (sym three))

-- ---- a start and a block, by the payload's length
module _ (p : Page) (payload : List ℕ) (j : Judged) where
  pub start_length : (length payload ≡ 8 → ⊥) → j ≡ bad p end.Payload → j ≡ start p payload
  unfolding start
  start_length h e = e ∙ sym (ap (λ (b : Bool). cond b (with_line p p.total (closed_row p.current) (started (sample_at payload 0))) (bad p end.Payload)) (ne_eqb (length payload) 8 h))

  pub start_is : length payload ≡ 8 → j ≡ with_line p p.total (closed_row p.current) (started (sample_at payload 0)) → j ≡ start p payload
  unfolding start
  start_is h e = e ∙ sym (ap (λ (b : Bool). cond b (with_line p p.total (closed_row p.current) (started (sample_at payload 0))) (bad p end.Payload)) (eq-eqb (length payload) 8 h))

  module _ (f : Figures) where
    abbrev grows : Judged
    grows = with_line p p.closed quiet (with_block f (little_from payload 0 4) (little_from payload 4 4) (sample_at payload 8) (sample_at payload 16) (sample_at payload 24))

    pub block_length : (length payload ≡ 32 → ⊥) → j ≡ bad p end.Payload → j ≡ block p f payload
    unfolding block
    block_length h e = e ∙ sym (ap (λ (b : Bool). cond b grows (bad p end.Payload)) (ne_eqb (length payload) 32 h))

    pub block_is : length payload ≡ 32 → j ≡ grows → j ≡ block p f payload
    unfolding block
    block_is h e = e ∙ sym (ap (λ (b : Bool). cond b grows (bad p end.Payload)) (eq-eqb (length payload) 32 h))

-- ---- a block where a line is open, and where none is
pub block_open : (s : Sheet) (l : Line) (payload : List ℕ) (j : Judged) → s.line ≡ Some l → j ≡ block (page_of s) (figures_of l) payload → j ≡ block_on (page_of s) (current_of s.line) payload
unfolding block_on
block_open s l payload j h e = e ∙ sym (ap (λ (o : Option Line). block_on (page_of s) (current_of o) payload) h)

pub block_early : (s : Sheet) (payload : List ℕ) (j : Judged) → s.line ≡ None → j ≡ bad (page_of s) end.Early → j ≡ block_on (page_of s) (current_of s.line) payload
unfolding block_on
block_early s payload j h e = e ∙ sym (ap (λ (o : Option Line). block_on (page_of s) (current_of o) payload) h)

-- ---- by the kind
module _ (p : Page) (kind : ℕ) (payload : List ℕ) (j : Judged) where
  abbrev by : Bool → Bool → Judged
  by three two = cond three (block_on p p.current payload) (cond two (record { page = p; row = quiet; reads = true }) (start p payload))

  pub kind_block : kind ≡ 3 → j ≡ block_on p p.current payload → j ≡ judge p kind payload
  unfolding judge
  kind_block h e = e ∙ sym (ap (λ (b : Bool). by b (eqb kind 2)) (eq-eqb kind 3 h))

  pub kind_setting : (kind ≡ 3 → ⊥) → kind ≡ 2 → j ≡ record { page = p; row = quiet; reads = true } → j ≡ judge p kind payload
  unfolding judge
  kind_setting n h e = e ∙ sym (ap (λ (b : Bool). by b (eqb kind 2)) (ne_eqb kind 3 n) ∙ ap (λ (b : Bool). by false b) (eq-eqb kind 2 h))

  pub kind_start : (kind ≡ 3 → ⊥) → (kind ≡ 2 → ⊥) → j ≡ start p payload → j ≡ judge p kind payload
  unfolding judge
  kind_start n m e = e ∙ sym (ap (λ (b : Bool). by b (eqb kind 2)) (ne_eqb kind 3 n) ∙ ap (λ (b : Bool). by false b) (ne_eqb kind 2 m))

-- ---- a sheet with nothing in it
held_none : (b : Big) → value_of b ≡ 0 → held_in b ≡ (0, 0)
held_none b e = held_plain b (omega (arith, half_above)) ∙ ap (λ (n : ℕ). (n, 0)) e

pub nothing_is : (a b : Big) → value_of a ≡ 0 → value_of b ≡ 0 → sums_of (record { frames = 0; blocks = 0; exactly = a; stored = b }) ≡ nothing
nothing_is a b e f =
    let g : Whole → Whole → Sums = λ c d. record { frames = 0; blocks = 0; exactly = c; stored = d } in
    ap (λ (v : Whole). g v (held_in b)) (held_none a e) ∙ ap (g (0, 0)) (held_none b f)
