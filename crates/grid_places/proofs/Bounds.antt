-- Where every grid point of an index is held, the index is a number from -shift - 1 on and below last - shift + 1. Assumes nothing.
use Rattle.std.proofs.Common.{◌≡◌, ℕ, suc, ◌+◌, ◌-◌, ◌*◌, ◌^◌, ◌<◌, ◌≤◌, Bool, true, false, T, leb, ℤ, pos, negsuc, ◌+ℤ◌, ◌*ℤ◌, sym, refl, ◌∙◌, subst, mul-le-mul_left, arith, lit<, leb-true}
use native.Mathlib.Nat.{lt_of_mul-lt-mul_left}
use lib.Ieee.{Float, binary64, low, fits}
use Rattle.exact.specs.Whole.{Whole, ◌⊕◌, ◌⊙◌, Same, Less, AtMost}
use Rattle.exact.specs.Exact.{exact, Number}
use Rattle.exact.specs.Integers.{pair_of, Is}
use Rattle.exact.proofs.Integers.{pair_is, plus_is}
use Rattle.error.proofs.Ladder.{both}
use Rattle.whole.specs.Rounded.{floor_of}
use Rattle.whole.specs.Numbers.{Greatest}
use Rattle.whole.proofs.Small.{small_number}
use Rattle.whole.proofs.Values.{floor_greatest}
use Rattle.interpolation.specs.Grid.{in_range, point_of}
use Rattle.interpolation.specs.Steps.{inner_of, whole_by, begin_of}
use Rattle.interpolation.specs.declared.Point.{Point}
use Rattle.interpolation.proofs.Integers.{is_same, at_is}
use Rattle.interpolation.proofs.Points.{point_equation}
use Rattle.interpolation.proofs.Range.{in_range_lem, in_range_one}
use Rattle.interpolation.proofs.Starts.{index_value, start_is}
use Rattle.asynchro_sinc.specs.declared.SincInterpolationType.{SincInterpolationType}
use Rattle.asynchro_sinc.specs.declared.SincInterpolationType.TheVariants.{Nearest, Linear, Quadratic, Cubic}
use Rattle.grid_places.specs.Spots.{within, spot_from, spots_of, is_held, all_held}
use Rattle.grid_places.proofs.Grid.{least_of, nearest_of, number_of, held_range, held_middle}

-- x is a number of at least -shift - 1, and below last - shift + 1
pub record Bounded (shift last : ℕ) (x : Float) : Type 0 where
  pub number : Number binary64 x
  pub at_least : AtMost (0, (shift + 1) * 2 ^ low binary64) (exact binary64 x)
  pub below : Less (exact binary64 x) ((last + 1) * 2 ^ low binary64, shift * 2 ^ low binary64)

-- ---- a point that is held: its index lies from -shift to last - shift
-- it is held just where its test passes
pub held_within : (b : Bool) (start row : ℕ) → is_held (within b start row) ≡ b
held_within true start row = refl
held_within false start row = refl

abbrev pub Placed : ℕ → ℕ → Whole → Type 0
Placed shift last v = (v.1 ≤ v.0 + shift) × (v.0 + shift ≤ last + v.1)

held_placed : (shift last : ℕ) (z : ℤ) (row : ℕ) → is_held (spot_from shift last z row) ≡ true → Placed shift last (pair_of z)
unfolding spot_from
held_placed shift last (pos n) row h = omega (arith, leb-true (n + shift) last (sym (held_within (leb (n + shift) last) (n + shift) row) ∙ h))
held_placed shift last (negsuc n) row h =
    let w = both (leb (suc n) shift) (leb (shift - suc n) last) (sym (held_within _ (shift - suc n) row) ∙ h) in
    let p : suc n ≤ shift = leb-true (suc n) shift w.0 in
    omega (arith, leb-true (shift - suc n) last w.1)

-- ---- the index of the point number z * factor + parts + o
-- v lies from w - back to w + 1
abbrev pub Near : ℕ → Whole → Whole → Type 0
Near back v w = AtMost w (v ⊕ (back, 0)) × AtMost v (w ⊕ (1, 0))

-- o lies from -back * factor on and below the factor
abbrev pub Offset : ℕ → ℕ → Whole → Type 0
Offset factor back o = AtMost (0, back * factor) o × Less o (factor, 0)

-- with sub left over, the index v lies near w
next_index : (factor back : ℕ) (v w o : Whole) (sub parts : ℕ) → sub < factor → parts ≤ factor → Offset factor back o → Same (factor ⊙ v ⊕ (sub, 0)) (factor ⊙ w ⊕ (parts, 0) ⊕ o) → Near back v w
next_index factor back v w o sub parts inside most off e =
    let a : factor * (w.0 + v.1) < factor * (v.0 + w.1 + back + 1) = omega arith in
    let b : factor * (v.0 + w.1) < factor * (w.0 + v.1 + 2) = omega arith in
    omega (arith, lt_of_mul-lt-mul_left factor {m = w.0 + v.1} {n = v.0 + w.1 + back + 1} a, lt_of_mul-lt-mul_left factor {m = v.0 + w.1} {n = w.0 + v.1 + 2} b)

module _ (factor back : ℕ) (z o : ℤ) (parts : ℕ) (some : 0 < factor) (most : parts ≤ factor) (off : Offset factor back (pair_of o)) where
  abbrev point : Point
  point = point_of factor (z *ℤ pos factor +ℤ pos parts +ℤ o)

  point_next : Near back (pair_of point.index) (pair_of z)
  point_next =
      let q = z *ℤ pos factor +ℤ pos parts +ℤ o in
      let v = pair_of point.index in
      let n = point_equation factor q some in
      next_index factor back v (pair_of z) (pair_of o) point.subindex parts n.inside most off
      (is_same q (factor ⊙ v ⊕ (point.subindex, 0)) (factor ⊙ pair_of z ⊕ (parts, 0) ⊕ pair_of o)
      (subst (λ (y : ℤ). Is y (factor ⊙ v ⊕ (point.subindex, 0))) n.equation (at_is point.index factor point.subindex v (pair_is point.index)))
      (plus_is (z *ℤ pos factor +ℤ pos parts) o (factor ⊙ pair_of z ⊕ (parts, 0)) (pair_of o) (at_is z factor parts (pair_of z) (pair_is z)) (pair_is o)))

-- in range the index of the point number q + o lies near the floor
pub number_near : (blend : SincInterpolationType) (factor back : ℕ) (x : Float) (o : ℤ) → T (fits binary64 x) → in_range 1 x factor ≡ true → Offset factor back (pair_of o)
    → Near back (pair_of (point_of factor (number_of blend x factor +ℤ o)).index) (pair_of (inner_of x factor).index)
number_near blend factor back x o f i off =
    let k = (begin_of (whole_by (nearest_of blend)) x factor).parts in
    let most : k ≤ factor = (start_is x factor f i (nearest_of blend) (inner_of x factor) (whole_by (nearest_of blend) (inner_of x factor).product) refl refl k refl).1.1 in
    point_next factor back (inner_of x factor).index o k (omega (arith, (in_range_lem 1 x factor i).1)) most off

-- ---- in units, of which U make one: w is the floor of x
in-units : (U shift last : ℕ) (x floor v w : Whole) → Greatest U x floor → Same floor (U ⊙ w) → Near 0 v w → Placed shift last v
    → AtMost (0, (shift + 1) * U) x × Less x ((last + 1) * U, shift * U)
in-units U shift last x floor v w g e n p =
    let l : w.1 ≤ w.0 + (shift + 1) = omega arith in
    let h : w.0 + shift ≤ last + w.1 = omega arith in
    omega (arith, g.at_most, g.near, mul-le-mul_left U l, mul-le-mul_left U h)

-- ---- as doubles
least_some : (blend : SincInterpolationType) → 0 < least_of blend
least_some Nearest = lit< tt
least_some Linear = lit< tt
least_some Quadratic = lit< tt
least_some Cubic = lit< tt

pub held_bounded : (blend : SincInterpolationType) (factor shift last : ℕ) (x : Float) → T (fits binary64 x) → all_held (spots_of blend factor shift last x) ≡ true → Bounded shift last x
held_bounded blend factor shift last x f h =
    let r = held_range blend x factor shift last h in
    let i = in_range_one (least_of blend) x factor (least_some blend) r in
    let t = (small_number x f (in_range_lem 1 x factor i).0).0 in
    let p = point_of factor (number_of blend x factor +ℤ pos 0) in
    let b = in-units (2 ^ low binary64) shift last (exact binary64 x) (exact binary64 (floor_of x)) (pair_of p.index) (pair_of (inner_of x factor).index) (floor_greatest x t).1 (index_value x factor f i)
    (number_near blend factor 0 x (pos 0) f i (omega (arith, (in_range_lem 1 x factor i).1))) (held_placed shift last p.index p.subindex (held_middle blend x factor shift last h)) in
    record { number = t; at_least = b.0; below = b.1 }
