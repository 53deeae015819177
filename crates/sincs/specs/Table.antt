-- Document 02, R-3: "the table of `make_sincs`, points times factor at most 65,536", by src/sinc.rs. Definitions only.
use Rattle.std.specs.Prelude.{ℕ, zero, suc, ◌+◌, ◌-◌, ◌*◌, ◌/◌, ◌%◌, Bool, ◌&&◌, List, [], length, ◌==◌, nat_le, Float}
use Rattle.std.specs.Float.Ieee.{lt, le}
use Rattle.exact.specs.Doubles.{◌+f◌, ◌/f◌, count, zero_f, one_f}
use Rattle.error.specs.Refusals.{Said, given, unless}
use Rattle.windows.specs.declared.WindowFunction.{WindowFunction}
use Rattle.window_points.specs.Filled.{listed, Filled, filled_or}
use Rattle.sincs.specs.Sinc.{value_at}

-- the values before x, summed up from 0.0
unfoldable pub sum_to : (ℕ → Float) → ℕ → Float
sum_to f zero = zero_f
sum_to f (suc x) = sum_to f x +f f x

-- the sum of all, divided by the factor
abbrev pub sum_of : ℕ → ℕ → Float → WindowFunction → Float
sum_of points factor cutoff w = sum_to (value_at points factor cutoff w) (points * factor) /f count factor

-- "table row factor-n-1, place p is value(factor*p + n)/sum"; rows lie one after the other, so entry j is of row j / points, place j % points, and n is factor - 1 - row
abbrev pub value_no : ℕ → ℕ → ℕ → ℕ
value_no points factor j = factor * (j % points) + (factor - 1 - j / points)

abbrev pub entry_at : ℕ → ℕ → Float → WindowFunction → ℕ → Float
entry_at points factor cutoff w j = value_at points factor cutoff w (value_no points factor j) /f sum_of points factor cutoff w

abbrev pub sincs_table : ℕ → ℕ → Float → WindowFunction → List Float
sincs_table points factor cutoff w = listed (entry_at points factor cutoff w) (points * factor)

-- "11 for zero points or factor, a product below 2 or above the limit, or a cutoff outside 0 (excluded) to 1"; zero points or factor make a product of 0
abbrev pub product_holds : ℕ → ℕ → Bool
product_holds points factor = nat_le 2 (points * factor) && nat_le (points * factor) 65536

-- false for a NaN
abbrev pub cutoff_holds : Float → Bool
cutoff_holds cutoff = lt zero_f cutoff && le cutoff one_f

-- then 8 for a lent area of another length
abbrev pub sincs_said : ℕ → ℕ → Float → ℕ → Said Unit
sincs_said points factor cutoff long =
    unless (product_holds points factor && cutoff_holds cutoff) 11 [] (unless (long == points * factor) 8 [] (given tt))

abbrev pub sincs_of : ℕ → ℕ → Float → WindowFunction → List Float → Filled
sincs_of points factor cutoff w area = filled_or area (sincs_table points factor cutoff w) (sincs_said points factor cutoff (length area))
