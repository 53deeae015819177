-- What a record resamples by, and what that fixes. Definitions only.
use Rattle.std.specs.Prelude.{Bool, true, ◌&&◌, ℕ, ◌*◌, ◌%◌, eqb, leb}
use Rattle.asynchro_fast.specs.Degrees as degrees
use Rattle.kinds.specs.declared.Kind.{Kind}
use Rattle.kinds.specs.declared.Kind.TheVariants.{Polynomial, Sinc}

-- Document 01: "Points L: Nearest 1, Linear 2, ..". Document 02, R-4: "L is the points"
abbrev pub points_of : Kind → ℕ
points_of (Polynomial degree) = degrees.points_of degree
points_of (Sinc points factor blend) = points

-- R-4: "points even, 8 to 256; factor 3 to 1,024"
abbrev pub sinc_holds : ℕ → ℕ → Bool
sinc_holds points factor = leb 8 points && leb points 256 && eqb (points % 2) 0 && leb 3 factor && leb factor 1024

-- refusal 11 is given, first, unless this holds; a polynomial is never refused so
abbrev pub kind_holds : Kind → Bool
kind_holds (Polynomial degree) = true
kind_holds (Sinc points factor blend) = sinc_holds points factor

-- the samples of the lent table: a row of L samples for each of the factor's parts; none for a polynomial
abbrev pub table_of : Kind → ℕ
table_of (Polynomial degree) = 0
table_of (Sinc points factor blend) = points * factor
