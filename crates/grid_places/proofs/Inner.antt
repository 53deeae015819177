-- Where an index lies well inside, every grid point's samples are held: the points lie from one sample before the floor to one after it. Assumes nothing.
use Rattle.std.proofs.Common.{Some, ◌≡◌, ℕ, suc, ◌+◌, ◌-◌, ◌*◌, ◌^◌, ◌<◌, ◌≤◌, true, leb, List, map, ℤ, pos, negsuc, ◌+ℤ◌, sym, ◌∙◌, subst, mul-le-mul_right, arith, lit<, pow_pos, pow-add, le-leb}
use mathlib.Core.Bool.{and-eq-true_iff}
use native.Mathlib.Nat.{lt_of_mul-lt-mul_left}
use lib.Ieee.{Float, binary64, low}
use Rattle.exact.specs.Whole.{Whole, ◌⊙◌, Same, Less, AtMost, Below}
use Rattle.exact.specs.Exact.{exact, Number}
use Rattle.exact.specs.Integers.{pair_of}
use Rattle.error.specs.Refusals.{Said}
use Rattle.whole.specs.Rounded.{floor_of}
use Rattle.whole.specs.Numbers.{Greatest}
use Rattle.whole.proofs.Small.{is_small}
use Rattle.whole.proofs.Values.{floor_greatest}
use Rattle.interpolation.specs.Grid.{in_range, point_of}
use Rattle.interpolation.specs.Steps.{inner_of}
use Rattle.interpolation.specs.declared.Point.{Point}
use Rattle.interpolation.proofs.Range.{in_range_one}
use Rattle.interpolation.proofs.Starts.{index_value}
use Rattle.asynchro_sinc.specs.declared.SincInterpolationType.{SincInterpolationType}
use Rattle.asynchro_sinc.specs.declared.SincInterpolationType.TheVariants.{Nearest, Linear, Quadratic, Cubic}
use Rattle.grid_places.specs.Spots.{spot_from, spot_of, blend_place, blended, spots_said, spots_of, is_held, all_held}
use Rattle.grid_places.proofs.Grid.{number_of, points_of, range_points}
use Rattle.grid_places.proofs.Bounds.{held_within, Placed, Near, Offset, number_near}

-- a point whose index lies from -shift to last - shift is held
placed_held : (shift last : ℕ) (z : ℤ) (row : ℕ) → Placed shift last (pair_of z) → is_held (spot_from shift last z row) ≡ true
unfolding spot_from
placed_held shift last (pos n) row p = held_within _ (n + shift) row ∙ le-leb (n + shift) last (omega arith)
placed_held shift last (negsuc n) row p =
    held_within _ (shift - suc n) row
    ∙ (and-eq-true_iff (leb (suc n) shift) (leb (shift - suc n) last)).1 (le-leb (suc n) shift (omega arith), le-leb (shift - suc n) last (omega arith))

-- ---- in units, of which U make one: x lies from -shift on and below last - shift + 1
module _ (U shift last : ℕ) (x : Whole) (at_least : AtMost (0, shift * U) x) (below : Less x ((last + 1) * U, shift * U)) where
  -- its floor w lies from -shift to last - shift
  floor_placed : (floor w : Whole) → Greatest U x floor → Same floor (U ⊙ w) → Placed shift last w
  floor_placed floor w g e =
      let a : U * w.1 < U * (w.0 + shift + 1) = omega (arith, g.near) in
      let b : U * (w.0 + shift) < U * (last + 1 + w.1) = omega (arith, g.at_most) in
      omega (arith, lt_of_mul-lt-mul_left U {m = w.1} {n = w.0 + shift + 1} a, lt_of_mul-lt-mul_left U {m = w.0 + shift} {n = last + 1 + w.1} b)

  -- and it is below 2 ^ 52 in size
  size_below : 0 < U → shift < 131072 → last < 131072 → (B : ℕ) → B ≡ 4503599627370496 * U → Below B x
  size_below P h l B e =
      let a : shift ≤ 131072 = omega arith in
      let b : last + 1 ≤ 131072 = omega arith in
      omega (arith, mul-le-mul_right U a, mul-le-mul_right U b)

-- what lies near such a floor, with one sample kept free below and two above, lies there too
near_placed : (shift last : ℕ) (v w : Whole) → 1 ≤ shift → 2 ≤ last → Placed (shift - 1) (last - 2) w → Near 1 v w → Placed shift last v
near_placed shift last v w h l p n = omega arith

-- ---- as doubles
-- the point number q + o is held
abbrev HeldAt : SincInterpolationType → ℕ → ℕ → ℕ → Float → ℤ → Type 0
HeldAt blend factor shift last x o = is_held (spot_of shift last (point_of factor (number_of blend x factor +ℤ o))) ≡ true

-- each blend's points are numbers from q - 1 to q + 2, so they are held where all of these are
blended_held : (blend : SincInterpolationType) (factor shift last : ℕ) (x y : Float) → 3 ≤ factor → ((o : ℤ) → Offset factor 1 (pair_of o) → HeldAt blend factor shift last x o)
    → all_held (Some (blended blend (map (spot_of shift last) (points_of blend x factor)) y)) ≡ true
blended_held Nearest factor shift last x y some h = h (pos 0) (omega arith)
blended_held Linear factor shift last x y some h = rw (h (pos 0) (omega arith), h (pos 1) (omega arith))
blended_held Quadratic factor shift last x y some h = rw (h (pos 0) (omega arith), h (pos 1) (omega arith), h (pos 2) (omega arith))
blended_held Cubic factor shift last x y some h = rw (h (negsuc 0) (omega arith), h (pos 0) (omega arith), h (pos 1) (omega arith), h (pos 2) (omega arith))

-- the law: of a number of at least -(shift - 1), and below last - shift, every grid point's samples are held
pub inner_held : (blend : SincInterpolationType) (factor shift last : ℕ) (x : Float) → 3 ≤ factor → factor ≤ 1024 → 1 ≤ shift → shift < 131072 → 2 ≤ last → last < 131072 → Number binary64 x
    → AtMost (0, (shift - 1) * 2 ^ low binary64) (exact binary64 x)
    → Less (exact binary64 x) ((last - 2 + 1) * 2 ^ low binary64, (shift - 1) * 2 ^ low binary64)
    → all_held (spots_of blend factor shift last x) ≡ true
inner_held blend factor shift last x some most h k l m n a b =
    subst (λ (said : Said (List Point)). all_held (spots_said blend shift last (blend_place x factor) said) ≡ true) (sym (range_points blend x factor range))
    (blended_held blend factor shift last x (blend_place x factor) some held)
  where
    range : in_range 3 x factor ≡ true
    range =
        let s = size_below (2 ^ low binary64) (shift - 1) (last - 2) (exact binary64 x) a b (pow_pos (low binary64)) (omega arith) (omega arith) (2 ^ (52 + low binary64)) (pow-add 2 52 (low binary64)) in
        rw (is_small x n s, le-leb 3 factor some, le-leb factor 1048576 (omega arith))

    held : (o : ℤ) → Offset factor 1 (pair_of o) → HeldAt blend factor shift last x o
    held o off =
        let i = in_range_one 3 x factor (lit< tt) range in
        let z = pair_of (inner_of x factor).index in
        let p = point_of factor (number_of blend x factor +ℤ o) in
        let f = floor_placed (2 ^ low binary64) (shift - 1) (last - 2) (exact binary64 x) a b (exact binary64 (floor_of x)) z (floor_greatest x n).1 (index_value x factor n.1 i) in
        placed_held shift last p.index p.subindex (near_placed shift last (pair_of p.index) z h l f (number_near blend factor 1 x o n.1 i off))
