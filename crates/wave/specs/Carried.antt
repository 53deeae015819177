-- The quarter wave carried on to every whole number of steps: a turn has 4,096 of them, mirrored and negated over the quarters. Definitions only.
use Rattle.std.specs.Prelude.{ℕ, zero, suc, ◌-◌, ◌/◌, ◌%◌, ℤ, pos, negsuc, neg_ℤ}
use Rattle.quarter.specs.Rules.{entry}

-- the place of step n in its turn: n modulo 4,096
abbrev pub place_of : ℤ → ℕ
place_of (pos n) = n % 4096
place_of (negsuc n) = 4095 - n % 4096

-- the value r steps after the start of quarter 0, 1, 2 or 3
unfoldable pub in_quarter : ℕ → ℕ → ℤ
in_quarter zero r = pos (entry r)
in_quarter (suc zero) r = neg_ℤ (pos (entry (1024 - r)))
in_quarter (suc (suc zero)) r = neg_ℤ (pos (entry r))
in_quarter (suc (suc (suc q))) r = pos (entry (1024 - r))

-- the value at place p of a turn
abbrev pub turned : ℕ → ℤ
turned p = in_quarter (p / 1024) (p % 1024)

-- c(n), for every whole number n: 2^30*cos(n*pi/2048), by the table
abbrev pub carried : ℤ → ℤ
carried n = turned (place_of n)
