-- Document 02, R-3: what is proved of the wave, of the cosine and of the sine. That the entries are those of 2^30*cos, rounded, the rules do not settle: it is compared (tests/wave).
-- A number is given by its exact value, in units of 2 ^ -1074. Assumes nothing.
use mathlib.Core.Bool.{true}
use mathlib.Core.Logic.{◌⊎◌, ⊎_elim}
use mathlib.Core.Path.{◌≡◌}
use Prim.Native.Nat.{◌+◌, ◌*◌, ◌^◌, ◌≤◌, ◌<◌}
use lib.Dec.{T}
use lib.IntN.{ℤ, pos, neg_ℤ, nat_abs, ◌+ℤ◌, ◌-ℤ◌}
use lib.Ieee.{Float, binary64, low, fits}
use Rattle.exact.specs.Exact.{exact}
use Rattle.exact.specs.Integers.{pair_of}
use Rattle.exact.specs.Whole.{◌⊙◌, Same}
use Rattle.whole.specs.Rounded.{floor_of}
use Rattle.whole.specs.Small.{small}
use Rattle.whole.proofs.Small.{floor_value}
use Rattle.quarter.specs.Rules.{Near, Rules}
use Rattle.quarter.proofs.Rules.{rules}
use Rattle.wave.specs.Between.{step_units, Between}
use Rattle.wave.specs.Carried.{place_of, carried}
use Rattle.wave.specs.Cosine.{steps_of, cosine_at, sine_at}
use Rattle.wave.proofs.Between as lines
use Rattle.wave.proofs.Carried as turns
use Rattle.wave.proofs.Carried.{Positive}

-- "The wave starts at 2^30, ends at 0 and falls strictly", its neighbours and its mirror: each computed once over the table, at every entry
pub wave_rules : Rules
wave_rules = rules

-- ---- carried on to every whole number n of steps
pub wave_period : (n : ℤ) → carried (n +ℤ pos 4096) ≡ carried n
wave_period = turns.period

pub wave_mirror : (n : ℤ) → carried (neg_ℤ n) ≡ carried n
wave_mirror = turns.even

pub wave_half_turn : (n : ℤ) → carried (n +ℤ pos 2048) ≡ neg_ℤ (carried n)
wave_half_turn = turns.half_turn

-- its sign: above 0 less than a quarter of a turn from 0, either way; 0 at a quarter; below 0 further off
pub wave_above : (n : ℤ) → (place_of n < 1024) ⊎ (3072 < place_of n) → Positive (carried n)
wave_above n = ⊎_elim (turns.positive_after n) (turns.positive_before n)

pub wave_zero : (n : ℤ) → (place_of n ≡ 1024) ⊎ (place_of n ≡ 3072) → carried n ≡ pos 0
wave_zero = turns.zero_at

pub wave_below : (n : ℤ) → 1024 < place_of n → place_of n < 3072 → Positive (neg_ℤ (carried n))
wave_below = turns.negative_between

-- its size, and the squares of a step and of the step a quarter of a turn before
pub wave_size : (n : ℤ) → nat_abs (carried n) ≤ 2 ^ 30
wave_size = turns.size_most

pub wave_squares : (n : ℤ) → Near (2 ^ 31) (nat_abs (carried n) * nat_abs (carried n) + nat_abs (carried (n -ℤ pos 1024)) * nat_abs (carried (n -ℤ pos 1024))) (2 ^ 60)
wave_squares = turns.unit

-- ---- the cosine and the sine of k, below 2 ^ 52 in size
module _ (k : Float) (f : T (fits binary64 k)) (h : small k ≡ true) where
  -- the whole number of steps is the floor of k
  pub steps_are : Same (exact binary64 (floor_of k)) (2 ^ low binary64 ⊙ pair_of (steps_of k))
  steps_are = floor_value k f h

  -- of a whole step: the entry times 2^-30, exactly
  pub cosine_of_a_step : floor_of k ≡ k → Same (exact binary64 (cosine_at k)) (step_units (steps_of k))
  cosine_of_a_step = lines.cosine_whole k f h

  pub sine_of_a_step : floor_of k ≡ k → Same (exact binary64 (sine_at k)) (step_units (steps_of k -ℤ pos 1024))
  sine_of_a_step = lines.sine_whole k f h

  -- between two steps: between their values, with no rounding to spare
  pub cosine_between_steps : Between (step_units (steps_of k)) (step_units (steps_of k +ℤ pos 1)) (exact binary64 (cosine_at k))
  cosine_between_steps = lines.cosine_between k f h

  pub sine_between_steps : Between (step_units (steps_of k -ℤ pos 1024)) (step_units (steps_of k -ℤ pos 1024 +ℤ pos 1)) (exact binary64 (sine_at k))
  sine_between_steps = lines.sine_between k f h
