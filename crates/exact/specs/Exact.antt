-- The exact value of a finite float of the format f, as a whole number of the format's smallest value: for a double 2 ^ -1074. Definitions only.
use Rattle.std.specs.Prelude.{ℕ, ◌*◌, ◌/◌, ◌^◌, T, Float}
use Rattle.std.specs.Float.{nan, inf, fin, Format}
use Rattle.std.specs.Float.Ieee.{low, up, down, fits}
use Rattle.std.specs.Float.Ieee.Positive.{num, den}
use Rattle.std.specs.Float.Ieee.Scale.{finite}
use Rattle.exact.specs.Whole.{Whole, signed}

-- the size of x, in units of 2 ^ -low
abbrev pub mag : Format → Float → ℕ
mag f x = num x * 2 ^ low f / den x

unfoldable pub exact : Format → Float → Whole
exact f nan = (0, 0)
exact f (inf s) = (0, 0)
exact f (fin s m e) = signed s (m * up e * 2 ^ low f / down e)

-- a number of the format f: neither a NaN nor an infinity
abbrev pub Number : Format → Float → Type 0
Number f x = T (finite x) × T (fits f x)
