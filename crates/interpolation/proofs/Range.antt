-- What the test of the range says of t and the factor, in numbers. Assumes nothing.
use Rattle.std.proofs.Common.{◌≡◌, ℕ, ◌<◌, ◌≤◌, Bool, true, false, ◌&&◌, T, leb, sym, refl, subst, arith, leb→le, le-leb}
use lib.Ieee.{Float}
use lib.Ieee.Fits.{and_l, and_r}
use Rattle.whole.specs.Small.{small}
use Rattle.interpolation.specs.Grid.{in_range}

pub in_range_lem : (least : ℕ) (t : Float) (factor : ℕ) → in_range least t factor ≡ true → (small t ≡ true) × (least ≤ factor) × (factor ≤ 1048576)
in_range_lem least t factor h =
    let a = subst T (sym h) tt in
    let b = and_l (small t && leb least factor) (leb factor 1048576) a in
    (is_true (small t) (and_l (small t) (leb least factor) b), leb→le least factor (and_r (small t) (leb least factor) b), leb→le factor 1048576 (and_r (small t && leb least factor) (leb factor 1048576) a))
  where
    is_true : (b : Bool) → T b → b ≡ true
    is_true true t = refl
    is_true false t = absurd t

-- from 3 is from 1 too
pub in_range_one : (least : ℕ) (t : Float) (factor : ℕ) → 0 < least → in_range least t factor ≡ true → in_range 1 t factor ≡ true
in_range_one least t factor P h =
    let r = in_range_lem least t factor h in
    rw (r.0, le-leb 1 factor (omega arith), le-leb factor 1048576 r.2)
