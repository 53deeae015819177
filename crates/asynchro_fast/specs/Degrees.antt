-- What a degree fixes: how many samples its kernel reads, and how many of them stand before the one at fraction 0. Definitions only.
use Rattle.std.specs.Prelude.{ℕ}
use Rattle.asynchro_fast.specs.declared.PolynomialDegree.{PolynomialDegree}
use Rattle.asynchro_fast.specs.declared.PolynomialDegree.TheVariants.{Nearest, Linear, Cubic, Quintic, Septic}

-- document 01, "The ratio state": points L: Nearest 1, Linear 2, Cubic 4, Quintic 6, Septic 8
abbrev pub points_of : PolynomialDegree → ℕ
points_of Nearest = 1
points_of Linear = 2
points_of Cubic = 4
points_of Quintic = 6
points_of Septic = 8

-- document 01, "Block run" 4: b = 0, 0, 1, 2, 3 for L = 1, 2, 4, 6, 8
abbrev pub before_of : PolynomialDegree → ℕ
before_of Nearest = 0
before_of Linear = 0
before_of Cubic = 1
before_of Quintic = 2
before_of Septic = 3
