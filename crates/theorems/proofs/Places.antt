-- A frame's place by its floor: an index has a place just where its neighbours lie inside, and the place is its floor - b + 2L. Assumes nothing.
use mathlib.Core.Bool.{Bool, true, false, not, ◌&&◌, true≢false, false≢true, and-eq-true_iff}
use mathlib.Core.Logic.{◌⊎◌, inl, inr}
use mathlib.Core.Path.{◌≡◌, refl, sym, ap, ◌∙◌, subst}
use Prim.Native.Nat.{ℕ, ◌+◌, ◌-◌, ◌*◌, ◌/◌, ◌^◌, ◌≤◌, ◌<◌}
use native.Mathlib.Nat.{mul-one, mul-div_cancel, mul-le-mul_left, lt_of_mul-lt-mul_left}
use native.Mathlib.Omega.{arith}
use borrow.Author.Tests.{leb-true}
use lib.Dec.{T, leb, leb→le, nleb→lt}
use lib.IntN.{ℤ}
use lib.Ieee.{Float, nan, inf, fin, binary64, low, up, down, fits}
use lib.Ieee.Exact.{HasValue}
use lib.Ieee.Fits.{down_pos}
use Rattle.exact.specs.Whole.{Whole, ◌⊕◌, ◌⊙◌, Same, Less, AtMost}
use Rattle.exact.specs.Exact.{exact, Number}
use Rattle.whole.specs.Rounded.{whole_f, made_whole, part_div, over_div, floor_of, split_of}
use Rattle.whole.proofs.Held.{next_value, whole_f_value}
use Rattle.whole.proofs.Divisions.{part_next, over_next}
use Rattle.whole.proofs.Units.{whole_exact}
use Rattle.whole.proofs.Values.{floor_greatest}
use Rattle.asynchro_fast.specs.declared.PolynomialDegree.{PolynomialDegree}
use Rattle.asynchro_fast.specs.Degrees.{points_of, before_of}
use Rattle.asynchro_fast.proofs.Laws.{before_points}
use Rattle.path.specs.declared.Place.{Place}
use Rattle.std.specs.Prelude.{Option, Some}
use Rattle.path.specs.Places.{place_at, within, place_from, place_of, is_at, shift_of, last_of}
use Rattle.path.proofs.Bounds.{Placed}
use Rattle.theorems.specs.Block.{Floor, first_from, last_from}

-- ---- the floor of a number, in units of which U make one
floor_by : (U : ℕ) (v w k : Whole) → Same w (U ⊙ k) → AtMost w v → Less v (w ⊕ (U, 0)) → AtMost (U ⊙ k) v × Less v (U ⊙ (k ⊕ (1, 0)))
floor_by U v w k e l r = omega arith

pub floor_at : (x : Float) → Number binary64 x → (k : Whole) → Same (exact binary64 (floor_of x)) (2 ^ low binary64 ⊙ k) → Floor x k
floor_at x n k e =
    let g = (floor_greatest x n).1 in
    let b = floor_by (2 ^ low binary64) (exact binary64 x) (exact binary64 (floor_of x)) k e g.at_most g.near in
    record { number = n; at_most = b.0; below = b.1 }

pub floor_of_lem : (x : Float) → Number binary64 x → (k : Whole) × Floor x k
floor_of_lem x n =
    let o = (floor_greatest x n).1.whole in
    (o.ones, floor_at x n o.ones o.is)

-- ---- an index that has a place, by its floor k
module _ (U shift last : ℕ) (v k : Whole) (l : AtMost (U ⊙ k) v) (r : Less v (U ⊙ (k ⊕ (1, 0)))) where
  units_in : AtMost (0, shift * U) v → Less v ((last + 1) * U, shift * U) → AtMost (0, shift) k × Less k (last + 1, shift)
  units_in a b =
      let p : U * k.1 < U * (k.0 + 1 + shift) = omega arith in
      let q : U * (k.0 + shift) < U * (last + 1 + k.1) = omega arith in
      omega (arith, lt_of_mul-lt-mul_left U p, lt_of_mul-lt-mul_left U q)

  units_of : AtMost (0, shift) k → Less k (last + 1, shift) → AtMost (0, shift * U) v × Less v ((last + 1) * U, shift * U)
  units_of a b =
      let p : k.1 ≤ k.0 + shift = omega arith in
      let q : k.0 + 1 + shift ≤ last + 1 + k.1 = omega arith in
      omega (arith, mul-le-mul_left U p, mul-le-mul_left U q)

module _ (degree : PolynomialDegree) (needed : ℕ) (x : Float) (k : Whole) (fl : Floor x k) where
  -- the neighbours lie below 0 or at or past 2L + needed input
  abbrev Out : Type 0
  Out = Less (first_from degree k) (0, 0) ⊎ AtMost (2 * points_of degree + needed, 0) (last_from degree k)

  abbrev In : Type 0
  In = AtMost (0, shift_of degree) k × Less k (last_of degree needed + 1, shift_of degree)

  in-of : Placed (shift_of degree) (last_of degree needed) x → In
  in-of p = units_in (2 ^ low binary64) (shift_of degree) (last_of degree needed) (exact binary64 x) k fl.at_most fl.below p.at_least p.below

  placed_of : In → Placed (shift_of degree) (last_of degree needed) x
  placed_of h =
      let b = units_of (2 ^ low binary64) (shift_of degree) (last_of degree needed) (exact binary64 x) k fl.at_most fl.below h.0 h.1 in
      record { number = fl.number; at_least = b.0; below = b.1 }

  pub out_apart : Out → Placed (shift_of degree) (last_of degree needed) x → ⊥
  out_apart (inl o) p = omega (arith, in-of p, before_points degree)
  out_apart (inr o) p = omega (arith, in-of p, before_points degree)

  pub out_else : (Placed (shift_of degree) (last_of degree needed) x → ⊥) → Out
  out_else n = go (leb (k.1 + before_of degree) (k.0 + 2 * points_of degree)) (leb→le _ _) (nleb→lt _ _) (leb (k.0 + points_of degree) (needed + k.1 + before_of degree)) (leb→le _ _) (nleb→lt _ _)
    where
      go : (a : Bool) → (T a → k.1 + before_of degree ≤ k.0 + 2 * points_of degree) → (T (not a) → k.0 + 2 * points_of degree < k.1 + before_of degree)
          → (b : Bool) → (T b → k.0 + points_of degree ≤ needed + k.1 + before_of degree) → (T (not b) → needed + k.1 + before_of degree < k.0 + points_of degree) → Out
      go false u v b w z = inl (omega (arith, v tt))
      go true u v false w z = inr (omega (arith, z tt))
      go true u v true w z = absurd (n (placed_of (omega (arith, u tt, w tt, before_points degree), omega (arith, u tt, w tt, before_points degree))))

-- ---- the place itself
cut_is : (m : ℕ) (e : ℤ) (n : ℕ) → m * up e * 1 ≡ n * down e → m * up e / down e ≡ n
cut_is m e n h = ap (λ (a : ℕ). a / down e) (sym (mul-one (m * up e)) ∙ h) ∙ mul-div_cancel n (down_pos e)

plain_is : (shift last : ℕ) (y frac : Float) (n : ℕ) → HasValue y false n 1 → place_from shift last y frac ≡ within (leb (n + shift) last) (place_at (n + shift) frac)
unfolding place_from
plain_is shift last nan frac n v = absurd v
plain_is shift last (inf s) frac n v = absurd v
plain_is shift last (fin true m e) frac n v = absurd (true≢false v.0)
plain_is shift last (fin false m e) frac n v = ap (λ (j : ℕ). within (leb (j + shift) last) (place_at (j + shift) frac)) (cut_is m e n v.1)

minus_is : (shift last : ℕ) (y frac : Float) (n : ℕ) → HasValue y true n 1 → place_from shift last y frac ≡ within (leb n shift && leb (shift - n) last) (place_at (shift - n) frac)
unfolding place_from
minus_is shift last nan frac n v = absurd v
minus_is shift last (inf s) frac n v = absurd v
minus_is shift last (fin false m e) frac n v = absurd (false≢true v.0)
minus_is shift last (fin true m e) frac n v = ap (λ (j : ℕ). within (leb j shift && leb (shift - j) last) (place_at (shift - j) frac)) (cut_is m e n v.1)

-- the test passed
within_is : (b : Bool) (p : Place) (q : Option Place) → q ≡ within b p → is_at q ≡ true → (b ≡ true) × (q ≡ Some p)
within_is true p q e h = (refl, e)
within_is false p q e h = absurd (false≢true (sym (ap is_at e) ∙ h))

-- x has the place floor + shift, at most `last`
pub record Found (shift last : ℕ) (x : Float) : Type 0 where
  pub floor : Whole
  pub is : Floor x floor
  pub place : ℕ
  pub same : Same (place, shift) floor
  pub most : place ≤ last
  pub at : place_of shift last x ≡ Some (place_at place (split_of x).frac)

plain_units : (U n : ℕ) → Same (n * U, 0) (U ⊙ (n, 0))
plain_units U n = omega arith

minus_units : (U n : ℕ) → Same (0, n * U) (U ⊙ (0, n))
minus_units U n = omega arith

pub found : (shift last : ℕ) (x : Float) → T (fits binary64 x) → is_at (place_of shift last x) ≡ true → Found shift last x
unfolding place_from made_whole
found shift last nan t h = absurd (false≢true h)
found shift last (inf s) t h = absurd (false≢true h)
found shift last (fin false m e) t h =
    let x = fin false m e in
    let n = part_div (m * up e) (down e) in
    let v = next_value binary64 false m e n t (part_next (m * up e) (down e)) in
    let w = within_is (leb (n + shift) last) (place_at (n + shift) (split_of x).frac) (place_of shift last x) (plain_is shift last (whole_f false n) (split_of x).frac n (whole_f_value false n v)) h in
    record {
      floor = (n, 0);
      is = floor_at x (tt, t) (n, 0) (subst (λ (z : Whole). Same z (2 ^ low binary64 ⊙ (n, 0))) (sym (whole_exact false n v)) (plain_units (2 ^ low binary64) n));
      place = n + shift;
      same = omega arith;
      most = leb-true (n + shift) last w.0;
      at = w.1;
    }
found shift last (fin true m e) t h =
    let x = fin true m e in
    let n = over_div (m * up e) (down e) in
    let v = next_value binary64 true m e n t (over_next (m * up e) (down e)) in
    let w = within_is (leb n shift && leb (shift - n) last) (place_at (shift - n) (split_of x).frac) (place_of shift last x) (minus_is shift last (whole_f true n) (split_of x).frac n (whole_f_value true n v)) h in
    let b = (and-eq-true_iff (leb n shift) (leb (shift - n) last)).0 w.0 in
    let low_enough = leb-true n shift b.0 in
    record {
      floor = (0, n);
      is = floor_at x (tt, t) (0, n) (subst (λ (z : Whole). Same z (2 ^ low binary64 ⊙ (0, n))) (sym (whole_exact true n v)) (minus_units (2 ^ low binary64) n));
      place = shift - n;
      same = omega arith;
      most = leb-true (shift - n) last b.1;
      at = w.1;
    }
