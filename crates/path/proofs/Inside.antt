-- Reach puts every index of a block in bounds, for each kind: from -(2L + 1) on and below needed input + 1. The drift theorem stands on this. Assumes nothing.
use mathlib.Core.Bool.{true}
use mathlib.Core.Path.{◌≡◌}
use Prim.Native.Nat.{ℕ, zero, suc, ◌+◌, ◌-◌, ◌*◌, ◌^◌, ◌≤◌, ◌<◌}
use native.Mathlib.Nat.{mul-le-mul_right}
use native.Mathlib.Omega.{arith}
use lib.Dec.{T}
use lib.Ieee.{Float, binary64, low, fits}
use Rattle.exact.specs.Whole.{Whole, Less, AtMost}
use Rattle.exact.specs.Exact.{exact, Number}
use Rattle.asynchro_fast.proofs.Laws as degrees
use Rattle.kinds.specs.declared.Kind.{Kind}
use Rattle.kinds.specs.declared.Kind.TheVariants.{Polynomial, Sinc}
use Rattle.kinds.specs.Kinds.{points_of}
use Rattle.grid_places.proofs.Bounds.{held_bounded}
use Rattle.path.specs.Path.{path_at}
use Rattle.path.specs.Places.{shift_of, last_of}
use Rattle.path.specs.Sites.{site_of, reached, all_reach}
use Rattle.path.proofs.Bounds.{place_bounds}
use Rattle.path.proofs.Path.{path_fits, reach_each}

-- x is a number of at least -(2l + 1), and below c + 1
pub record Inside (l c : ℕ) (x : Float) : Type 0 where
  pub number : Number binary64 x
  pub at_least : AtMost (0, (2 * l + 1) * 2 ^ low binary64) (exact binary64 x)
  pub below : Less (exact binary64 x) ((c + 1) * 2 ^ low binary64, 0)

-- in units, of which U make one: a first sample from 0 on and at most l + c, of samples that begin b before the floor
kernel_least : (U l b : ℕ) (v : Whole) → AtMost (0, (2 * l - b) * U) v → AtMost (0, (2 * l + 1) * U) v
kernel_least U l b v h =
    let p : 2 * l - b ≤ 2 * l + 1 = omega arith in
    omega (arith, mul-le-mul_right U p)

kernel_below : (U l b c : ℕ) (v : Whole) → b < l → Less v ((l + c + 1) * U, (2 * l - b) * U) → Less v ((c + 1) * U, 0)
kernel_below U l b c v p h =
    let q : l + c + 1 ≤ c + 1 + (2 * l - b) = omega arith in
    omega (arith, mul-le-mul_right U q)

grid_below : (U l c : ℕ) (v : Whole) → Less v ((l + c + 1) * U, 2 * l * U) → Less v ((c + 1) * U, 0)
grid_below U l c v h =
    let q : l + c + 1 ≤ c + 1 + 2 * l = omega arith in
    omega (arith, mul-le-mul_right U q)

-- one law for each kind
pub site_inside : (k : Kind) (c : ℕ) (x : Float) → T (fits binary64 x) → reached (site_of k c x) ≡ true → Inside (points_of k) c x
site_inside (Polynomial degree) c x t e =
    let p = place_bounds (shift_of degree) (last_of degree c) x t e in
    record {
      number = p.number;
      at_least = kernel_least (2 ^ low binary64) _ _ (exact binary64 x) p.at_least;
      below = kernel_below (2 ^ low binary64) _ _ c (exact binary64 x) (degrees.before_points degree) p.below;
    }
site_inside (Sinc points factor blend) c x t e =
    let p = held_bounded blend factor (2 * points) (points + c) x t e in
    record { number = p.number; at_least = p.at_least; below = grid_below (2 ^ low binary64) points c (exact binary64 x) p.below }

-- ---- along the path: where every frame is in reach, every index is such a number
pub reach_inside : (k : Kind) (c : ℕ) (t d i : Float) (n : ℕ) → all_reach k c t d i n ≡ true → (f : ℕ) → 1 ≤ f → f ≤ n → Inside (points_of k) c (path_at t d i f).index
reach_inside k c t d i n r zero l m = absurd (omega arith)
reach_inside k c t d i n r (suc f) l m = site_inside k c (path_at t d i (suc f)).index (path_fits t d i f) (reach_each k c t d i n r (suc f) l m)
