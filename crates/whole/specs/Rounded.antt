-- Document 01, "The ratio state": floor, ceiling and truncation are worked out by the port; "Grid points": round half away from zero; "Block run", 4: frac = index - floor(index).
-- Each is given for every bit pattern: a NaN and an infinity are themselves, and the sign of a zero is the sign of x, as Rust has it. Definitions only.
use Rattle.std.specs.Prelude.{Bool, cond, ℕ, suc, ◌+◌, ◌*◌, ◌/◌, ◌%◌, eqb, Float}
use Rattle.std.specs.Float.{nan, inf, fin}
use Rattle.std.specs.Float.Ieee.{up, down, neg}
use Rattle.exact.specs.Doubles.{count, ◌-f◌}
use Rattle.whole.specs.declared.Parts.{Parts}

-- of the fraction a / d: its whole part, the least whole number not below it, and the nearest whole number, the larger one at a half
abbrev pub part_div : ℕ → ℕ → ℕ
part_div a d = a / d

abbrev pub over_div : ℕ → ℕ → ℕ
over_div a d = cond (eqb (a % d) 0) (a / d) (suc (a / d))

abbrev pub near_div : ℕ → ℕ → ℕ
near_div a d = (2 * a + d) / (2 * d)

-- the whole number n as a double, with a sign
abbrev pub whole_f : Bool → ℕ → Float
whole_f s n = cond s (neg (count n)) (count n)

-- x with its size |x| = a / d made the whole number that `how` gives by its sign; a NaN and an infinity are themselves
unfoldable pub made_whole : (Bool → ℕ → ℕ → ℕ) → Float → Float
made_whole how nan = nan
made_whole how (inf s) = inf s
made_whole how (fin s m e) = whole_f s (how s (m * up e) (down e))

-- the greatest whole number not above x: of a negative x the size goes up
abbrev pub floor_of : Float → Float
floor_of = made_whole (λ s a d. cond s (over_div a d) (part_div a d))

-- the least whole number not below x
abbrev pub ceil_of : Float → Float
ceil_of = made_whole (λ s a d. cond s (part_div a d) (over_div a d))

-- toward zero
abbrev pub trunc_of : Float → Float
trunc_of = made_whole (λ s a d. part_div a d)

-- the nearest whole number, a half away from zero
abbrev pub round_of : Float → Float
round_of = made_whole (λ s a d. near_div a d)

-- the floor, and what x is above it, rounded once: that can be 1.0 and is used so
abbrev pub split_of : Float → Parts
split_of x = record { floor = floor_of x; frac = x -f floor_of x }
