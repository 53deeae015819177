-- A line with a block added, step by step. Assumes nothing.
use mathlib.Core.Bool.{Bool, true, false, not, cond, ◌&&◌, ◌||◌}
use mathlib.Core.Logic.{◌⊎◌, inl, inr}
use mathlib.Core.Path.{◌≡◌, refl, sym, ap, ◌∙◌, subst}
use Prim.Native.Nat.{ℕ, ◌+◌, ◌*◌, ◌-◌, ◌/◌, ◌%◌, ◌^◌, ◌<◌, ◌≤◌}
use native.Mathlib.Omega.{arith}
use native.Mathlib.Nat.{mod-eq_of_lt, mul_assoc, mul_comm, mul_left_comm, mul-one, mul-le-mul, mul-le-mul_right, lt_of_lt_of_le}
use lib.Dec.{leb, lit≤}
use lib.Ieee.{Float, eq}
use lib.Pow.{pow_mono, shl_exact, shl_lt}
use borrow.Author.Tests.{ltb-false, le-ltb, lt-ltb, leb-true}
use Rattle.exact.specs.Doubles.{zero_f}
use Rattle.exact.specs.Whole.{Whole, ◌⊕◌, ◌⊙◌}
use Rattle.exact.specs.Running.{tri}
use Rattle.exact.proofs.Running.{tri_is}
use Rattle.big.specs.declared.Big.{Big}
use Rattle.big.specs.Value.{value_of, full, half}
use Rattle.std.specs.Prelude.{Option, Some, None, Result, Ok, Err, ok_or, SomeIff}
use Rattle.positions.specs.declared.double.NoPosition.{NoPosition}
use Rattle.positions.specs.declared.double.NoPosition.TheVariants.{Beyond, Other}
use Rattle.positions.specs.Positions.{one, plain, held_in, inside, is_multiple, position_of, HeldIf, IsHeld, IsDouble}
use Rattle.positions.specs.Fields.{TimesOf}
use Rattle.positions.proofs.Holds.{two_halves, same_plain, inside_same, inside_over}
use Rattle.positions.proofs.Products.{held_same, half_is}
use Rattle.lines.specs.declared.End.{End}
use Rattle.lines.specs.declared.End.TheVariants as end
use Rattle.lines.specs.declared.Line.{Line}
use Rattle.lines.specs.declared.Factors.{Factors}
use Rattle.lines.specs.Lines.{Figures, Going, on, ended, check, opened, started, is_count, figures_of, going_of, end_of, grown, move_of, block_fits, figures_fit, with_block}
use Rattle.lines.specs.Steps.{LineIf, OtherBy, IsTriangle, MovedBy, StoredBy, ramp_by, allowed_by, AfterBy, CountedBy, PlacedBy, GrownBy}

-- ---- tests joined
and-false : (b : Bool) → (b && false) ≡ false
and-false true = refl
and-false false = refl

and_first : (a b : Bool) → a ≡ false → (a && b) ≡ false
and_first a b e = ap (λ (x : Bool). x && b) e

and_second : (a b : Bool) → b ≡ false → (a && b) ≡ false
and_second a b e = ap (λ (x : Bool). a && x) e ∙ and-false a

distinct : {A : Type 0} → true ≡ false → A
distinct e = absurd (let z : ◌≡◌ {A = ℕ} 0 1 = ap (λ (b : Bool). cond b 0 1) e in omega arith)

pub passes : (b : Bool) (e : End) (next g : Going) → b ≡ true → g ≡ next → g ≡ check b e next
unfolding check
passes b e next g h k = rw h k

pub stops : (b : Bool) (e : End) (next : Going) → b ≡ false → ended e ≡ check b e next
unfolding check
stops b e next h = rw h

-- ---- n*(n+1)/2 in two factors
pub triangle_even : (n : ℕ) → n % 2 ≡ 0 → IsTriangle n (record { j = n / 2; k = n + 1 })
triangle_even n e =
    let h = n / 2 in
    let d : n ≡ 2 * (n / 2) = omega arith in
    let f : n * (n + 1) ≡ 2 * (n / 2) * (n + 1) = ap (λ (x : ℕ). x * (n + 1)) d in
    (omega (arith, tri_is n, mul_assoc 2 h (n + 1)), omega arith)

pub triangle_odd : (n : ℕ) → (n % 2 ≡ 0 → ⊥) → IsTriangle n (record { j = n / 2 + 1; k = n })
triangle_odd n e =
    let h = n / 2 + 1 in
    let d : n + 1 ≡ 2 * (n / 2 + 1) = omega (arith, e) in
    let f : n * (n + 1) ≡ n * (2 * (n / 2 + 1)) = ap (λ (x : ℕ). n * x) d in
    (omega (arith, tri_is n, mul_left_comm n 2 h, mul_comm n h), omega (arith, e))

-- ---- the bound
small : (x : ℕ) → x < 2 ^ 210 → x < half
unfolding half
small x h = lt_of_lt_of_le h (pow_mono {i = 210} {j = 255} (lit≤ tt))

pub product_few : (n : ℕ) → n < 4294967296 → n * (n + 1) < 18446744073709551616
product_few n h =
    let a : n ≤ 4294967295 = omega arith in
    let b : n + 1 ≤ 4294967296 = omega arith in
    omega (arith, mul-le-mul a b)

shifted : (a v x k : ℕ) → k ≤ 192 → a ≡ x → x < 2 ^ 64 → v ≡ a * 2 ^ k % full → v ≡ x * 2 ^ k
unfolding full
shifted a v x k l e h i = i ∙ ap (λ (y : ℕ). y * 2 ^ k % full) e ∙ shl_exact 64 k 256 h (omega arith)

pub ramp_some : (n a v : ℕ) (flat : Bool) → n < 4294967296 → flat ≡ false → a ≡ n * (n + 1) → v ≡ a * 2 ^ 146 % full → v ≡ ramp_by n flat
ramp_some n a v flat h e i k = shifted a v (n * (n + 1)) 146 (lit≤ tt) i (product_few n h) k ∙ sym (ap (λ (b : Bool). cond b 0 (n * (n + 1) * 2 ^ 146)) e)

ramp_few : (n : ℕ) (flat : Bool) → n < 4294967296 → ramp_by n flat < 2 ^ 210
ramp_few n true h = lt_of_lt_of_le (lit<one) (pow_mono {i = 0} {j = 210} (lit≤ tt))
  where
    lit<one : 0 < 2 ^ 0
    lit<one = omega arith
ramp_few n false h = shl_lt 64 146 (product_few n h)

pub allowed_is : (n a x y v : ℕ) (flat : Bool) → n < 4294967296 → a ≡ n + 1 → x ≡ a * 2 ^ 155 % full → y ≡ ramp_by n flat → v ≡ (x + y) % full → v ≡ allowed_by n flat
allowed_is n a x y v flat h e i k m =
    let b : n + 1 < 18446744073709551616 = omega arith in
    let u : x ≡ (n + 1) * 2 ^ 155 = shifted a x (n + 1) 155 (lit≤ tt) e b i in
    let c : n + 1 < 2 ^ 33 = omega arith in
    let f : x < half = small x (subst (λ (z : ℕ). z < 2 ^ 210) (sym u) (lt_of_lt_of_le (shl_lt 33 155 c) (pow_mono {i = 188} {j = 210} (lit≤ tt)))) in
    let g : y < half = small y (subst (λ (z : ℕ). z < 2 ^ 210) (sym k) (ramp_few n flat h)) in
    m ∙ mod-eq_of_lt (omega (arith, two_halves)) ∙ ap (λ (z : ℕ). z + y) u ∙ ap (λ (z : ℕ). (n + 1) * 2 ^ 155 + z) k

-- ---- the tests of a block and of the line with it, in the order in which they are made
arranged : (I N D M E S : Bool) → (((N && (D && M)) && E) && (I && S)) ≡ ((I && (N && (D && M))) && (E && (S && (true && true))))
arranged false N D M E S = and-false ((N && (D && M)) && E)
arranged true false D M E S = refl
arranged true true false M E S = refl
arranged true true true false E S = refl
arranged true true true true false S = refl
arranged true true true true true false = refl
arranged true true true true true true = refl

-- input sizes of 2^64 or more leave the range with any index that does not
low_side : (v : Whole) → inside v ≡ true → v.1 ≤ v.0 + half
low_side v k = go (leb v.1 (v.0 + half)) refl
  where
    go : (t : Bool) → leb v.1 (v.0 + half) ≡ t → v.1 ≤ v.0 + half
    go true q = leb-true v.1 (v.0 + half) q
    go false q = distinct (sym k ∙ and_first _ _ q)

twice : (a b : ℕ) → 9223372036854775808 * a ≡ b → 18446744073709551616 * a ≡ b + b
twice a b e = omega arith

inputs_over : (inputs : ℕ) (v : Whole) → is_count inputs ≡ false → inside v ≡ true → inside ((inputs * one, 0) ⊕ v) ≡ false
inputs_over inputs v h k =
    let l : 18446744073709551616 ≤ inputs = ltb-false inputs 18446744073709551616 h in
    inside_over ((inputs * one, 0) ⊕ v) (omega (arith, mul-le-mul_right one l, twice one half half_is, low_side v k))

module _ (l : Line) (n c : ℕ) (step more at : Result Big NoPosition) (flat : Bool) where
  -- the test that a block is taken by
  abbrev taken : Float → Float → Float → Bool
  taken t d i = block_fits n t d i && figures_fit (grown (figures_of l) n c t d i)

  -- a count, or the input sizes, would be 2^64 or more
  over : (t d i : Float) → (is_count (l.inputs + c) ≡ false) ⊎ ((is_count (l.frames + n) ≡ false) ⊎ (is_count (l.blocks + 1) ≡ false)) → taken t d i ≡ false
  over t d i (inr (inl h)) =
      and_second (block_fits n t d i) _ (and_second (inside (grown (figures_of l) n c t d i).exactly) _ (and_second (inside (grown (figures_of l) n c t d i).stored) _ (and_first _ (is_count (l.blocks + 1)) h)))
  over t d i (inr (inr h)) =
      and_second (block_fits n t d i) _ (and_second (inside (grown (figures_of l) n c t d i).exactly) _ (and_second (inside (grown (figures_of l) n c t d i).stored) _ (and_second (is_count (l.frames + n)) _ h)))
  over t d i (inl h) = go (inside (position_of i)) refl
    where
      w : Whole
      w = ((l.inputs + c) * one, 0) ⊕ position_of i

      go : (b : Bool) → inside (position_of i) ≡ b → taken t d i ≡ false
      go false q = and_first (block_fits n t d i) _ (and_first (inside (position_of i)) _ q)
      go true q =
          and_second (block_fits n t d i) _ (and_second (inside (grown (figures_of l) n c t d i).exactly) _
          (and_first (inside (plain w)) _ (sym (inside_same w (plain w) (same_plain w)) ∙ inputs_over (l.inputs + c) (position_of i) h q)))

  pub grown_over : (r : Option Line) → r ≡ None → CountedBy l n c flat r → GrownBy l n c step more at flat None
  grown_over r q h = λ t d i pt pd pi f. over t d i (subst (CountedBy l n c flat) q h)

  pub grown_on : (r : Option Line) (m : Line) (way e s : Option Big) (res : Option Line) → r ≡ Some m → CountedBy l n c flat r → MovedBy n step more way → AfterBy l.exactly way e → StoredBy m.inputs at s → PlacedBy m e s res
      → GrownBy l n c step more at flat res
  grown_on r m way e s res q h mv af st pl = λ t d i pt pd pi f.
      let k = subst (CountedBy l n c flat) q h in
      let v = held_in l.exactly ⊕ move_of n t d in
      let N = inside (n ⊙ position_of t) in
      let D = inside (tri n ⊙ position_of d) in
      let M = inside (move_of n t d) in
      let I = inside (position_of i) in
      let w : ℕ → Whole = λ x. (x * one, 0) ⊕ position_of i in
      let P : ℕ → ℕ → ℕ → ℕ → Type 0 = λ fr bl inp mo.
      LineIf (((N && (D && M)) && inside v) && (I && inside (w inp))) (record { frames = fr; blocks = bl; inputs = inp; exactly = plain v; stored = plain (w inp); most = mo }) res in
      let a : P m.frames m.blocks m.inputs (value_of m.most) =
      pl ((N && (D && M)) && inside v) (I && inside (w m.inputs)) v (w m.inputs) (af (N && (D && M)) (move_of n t d) (mv t d pt pd)) (st i pi) in
      let b = subst (λ (x : ℕ). P x m.blocks m.inputs (value_of m.most)) k.0 a in
      let b2 = subst (λ (x : ℕ). P (l.frames + n) x m.inputs (value_of m.most)) k.1 b in
      let b3 = subst (λ (x : ℕ). P (l.frames + n) (l.blocks + 1) x (value_of m.most)) k.2 b2 in
      let b4 = subst (λ (x : ℕ). P (l.frames + n) (l.blocks + 1) (l.inputs + c) x) (k.3 ∙ ap (λ (z : Bool). (value_of l.most + allowed_by n z) % full) f) b3 in
      let W = w (l.inputs + c) in
      let o : (((N && (D && M)) && inside v) && (I && inside W)) ≡ taken t d i =
      arranged I N D M (inside v) (inside W)
      ∙ ap (λ (x : Bool). (I && (N && (D && M))) && (x && (inside W && (true && true)))) (inside_same v (plain v) (same_plain v))
      ∙ ap (λ (x : Bool). (I && (N && (D && M))) && (inside (plain v) && (x && (true && true)))) (inside_same W (plain W) (same_plain W))
      ∙ ap (λ (x : Bool). (I && (N && (D && M))) && (inside (plain v) && (inside (plain W) && (x && true)))) (sym k.4)
      ∙ ap (λ (x : Bool). (I && (N && (D && M))) && (inside (plain v) && (inside (plain W) && (is_count (l.frames + n) && x)))) (sym k.5) in
      subst (λ (x : Bool). LineIf x (grown (figures_of l) n c t d i) res) o b4

-- a line, or that it ends with Range
ranged : (ok : Bool) (f : Figures) (r : Option Line) → LineIf ok f r → going_of (ok_or r end.Range) ≡ check ok end.Range (on f)
ranged ok f (Some m) h = passes ok end.Range (on f) (on (figures_of m)) h.0 (ap on h.1)
ranged ok f None h = stops ok end.Range (on f) h

-- ---- the block as it is: `float`, then the line with it
module _ (l : Line) (n c : ℕ) (t d i : Float) (step more at : Result Big NoPosition) (x y z : Bool) (pt : IsDouble t step) (pd : IsDouble d more) (pi : IsDouble i at) (ox : OtherBy step x) (oy : OtherBy more y) (oz : OtherBy at z) where
  abbrev floats : Bool → Bool → Bool → Bool
  floats a b e = not ((a || b) || e)

  turned : (a b e : Bool) → (a && (b && e)) ≡ floats (not a) (not b) (not e)
  turned false b e = refl
  turned true false e = refl
  turned true true false = refl
  turned true true true = refl

  joined : (is_multiple t && (is_multiple d && is_multiple i)) ≡ floats x y z
  joined =
      turned (is_multiple t) (is_multiple d) (is_multiple i)
      ∙ ap (λ (b : Bool). floats b (not (is_multiple d)) (not (is_multiple i))) (sym (ox t pt))
      ∙ ap (λ (b : Bool). floats x b (not (is_multiple i))) (sym (oy d pd)) ∙ ap (λ (b : Bool). floats x y b) (sym (oz i pi))

  pub block_float : ((x || y) || z) ≡ true → ended end.Float ≡ with_block (figures_of l) n c t d i
  block_float h = stops (is_multiple t && (is_multiple d && is_multiple i)) end.Float _ (joined ∙ ap not h)

  pub block_grown : (flat : Bool) (r : Option Line) → ((x || y) || z) ≡ false → flat ≡ eq d zero_f → GrownBy l n c step more at flat r → going_of (ok_or r end.Range) ≡ with_block (figures_of l) n c t d i
  block_grown flat r h f g =
      let m : (is_multiple t && (is_multiple d && is_multiple i)) ≡ true = joined ∙ ap not h in
      let k = three (is_multiple t) (is_multiple d) (is_multiple i) m in
      passes (is_multiple t && (is_multiple d && is_multiple i)) end.Float _ (going_of (ok_or r end.Range)) m (ranged _ _ r (g t d i (pt, k.0) (pd, k.1) (pi, k.2) f))
    where
      three : (a b e : Bool) → (a && (b && e)) ≡ true → (a ≡ true) × (b ≡ true) × (e ≡ true)
      three true true e q = (refl, refl, q)
      three true false e q = distinct (sym q)
      three false b e q = distinct (sym q)

-- ---- a start
pub start_on : (x : Float) (r : Result Big NoPosition) (b : Big) (l : Line) → r ≡ Ok b → IsDouble x r → figures_of l ≡ opened (held_in b) → on (figures_of l) ≡ started x
start_on x r b l q h e =
    let d = subst (IsDouble x) q h in
    passes (is_multiple x) end.Float _ _ d.0 (passes (inside (position_of x)) end.Range _ _ d.1 (ap on (e ∙ ap opened d.2)))

pub start_not : (x : Float) (r : Result Big NoPosition) (w : NoPosition) → r ≡ Err w → IsDouble x r → ended (end_of w) ≡ started x
start_not x r w q h = go w (subst (IsDouble x) q h)
  where
    go : (z : NoPosition) → IsDouble x (Err z) → ended (end_of z) ≡ started x
    go Beyond d = passes (is_multiple x) end.Float _ _ d.0 (stops (inside (position_of x)) end.Range _ d.1)
    go Other d = stops (is_multiple x) end.Float _ d
