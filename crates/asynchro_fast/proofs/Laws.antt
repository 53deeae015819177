-- Laws of the degrees. Assumes nothing.
use Prim.Native.Nat.{◌<◌, ◌≤◌}
use native.Mathlib.Omega.{arith}
use Rattle.asynchro_fast.specs.declared.PolynomialDegree.{PolynomialDegree}
use Rattle.asynchro_fast.specs.declared.PolynomialDegree.TheVariants.{Nearest, Linear, Cubic, Quintic, Septic}
use Rattle.asynchro_fast.specs.Degrees.{points_of, before_of}

pub points_small : (d : PolynomialDegree) → points_of d ≤ 8
points_small Nearest = omega arith
points_small Linear = omega arith
points_small Cubic = omega arith
points_small Quintic = omega arith
points_small Septic = omega arith

-- the samples before the one at fraction 0 are among those read
pub before_points : (d : PolynomialDegree) → before_of d < points_of d
before_points Nearest = omega arith
before_points Linear = omega arith
before_points Cubic = omega arith
before_points Quintic = omega arith
before_points Septic = omega arith
