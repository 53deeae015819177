-- The words for one rounding. Definitions only.
use Rattle.std.specs.Prelude.{Bool, ◌≡◌, ℕ, ◌+◌, ◌-◌, ◌^◌, Float}
use Rattle.std.specs.Float.{Format}
use Rattle.std.specs.Float.Ieee.{emax, low, round}
use Rattle.exact.specs.Whole.{Whole, signed, Same, Within}
use Rattle.exact.specs.Exact.{exact, Number}

-- ---- the same by the value: below 2 ^ k it is at most `slack f k` units off, half a unit in the last place of the numbers from 2 ^ (k - 1) up to 2 ^ k
-- In value that is 2 ^ (k - prec - 1): 2 ^ (k - 54) for a double.
abbrev pub slack : Format → ℕ → ℕ
slack f k = 2 ^ (k + emax f - 3)

-- x is a number, at most `slack f k` units away from v
abbrev pub Rounds : Format → ℕ → Float → Whole → Type 0
Rounds f k x v = Number f x × Within (slack f k) (exact f x) v

-- x is v units, rounded once
abbrev pub RoundOf : Format → Float → Whole → Type 0
RoundOf f x v = (s : Bool) × (a : ℕ) × (x ≡ round f s a (2 ^ low f)) × Same (signed s a) v
