-- Document 01, "Block run", 4 and Reach: where a kernel's neighbours begin, and whether they are all there. Definitions only.
use Rattle.std.specs.Prelude.{Bool, true, false, ◌&&◌, ℕ, ◌+◌, ◌-◌, ◌*◌, ◌/◌, leb, Float, Option, Some, None}
use Rattle.std.specs.Float.{nan, inf, fin}
use Rattle.std.specs.Float.Ieee.{up, down}
use Rattle.whole.specs.Rounded.{split_of}
use Rattle.asynchro_fast.specs.declared.PolynomialDegree.{PolynomialDegree}
use Rattle.asynchro_fast.specs.Degrees.{points_of, before_of}
use Rattle.path.specs.declared.Place.{Place}

-- the place of neighbours that begin there
abbrev pub place_at : ℕ → Float → Place
place_at start frac = record { start = start; frac = frac }

-- a place where the test passes
abbrev pub within : Bool → Place → Option Place
within true p = Some p
within false p = None

-- The place floor + shift of a whole double, with the fraction: None where it lies below 0 or above last. No number has no place.
unfoldable pub place_from : ℕ → ℕ → Float → Float → Option Place
place_from shift last nan frac = None
place_from shift last (inf s) frac = None
place_from shift last (fin false m e) frac = within (leb (m * up e / down e + shift) last) (place_at (m * up e / down e + shift) frac)
place_from shift last (fin true m e) frac = within (leb (m * up e / down e) shift && leb (shift - m * up e / down e) last) (place_at (shift - m * up e / down e) frac)

-- "the kernel reads L neighbours from floor(index) - b + 2L .. and frac = index - floor(index). Frac can round to 1.0; the kernel uses it so."
abbrev pub shift_of : PolynomialDegree → ℕ
shift_of d = 2 * points_of d - before_of d

-- the neighbours lie below 2L + needed input where the first is at most L + needed input
abbrev pub last_of : PolynomialDegree → ℕ → ℕ
last_of d needed = points_of d + needed

abbrev pub place_of : ℕ → ℕ → Float → Option Place
place_of shift last x = place_from shift last (split_of x).floor (split_of x).frac

abbrev pub is_at : Option Place → Bool
is_at (Some p) = true
is_at None = false
