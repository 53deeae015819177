-- What the private functions promise one another: the same line, by places of a turn and not by whole numbers with a sign. Nothing here that
-- a reader needs to believe: the proofs show that it is the cosine and the sine. Definitions only.
use Rattle.std.specs.Prelude.{ℕ, ◌+◌, ◌%◌, ◌≤◌, true, false, T, pos, unsigned_abs, Float}
use Rattle.std.specs.Float.{fin, binary64}
use Rattle.std.specs.Float.Ieee.{lt, le, of_int, to_signed}
use Rattle.exact.specs.Doubles.{◌*f◌}
use Rattle.exact.specs.Samples.{line_on}
use Rattle.whole.specs.Rounded.{split_of}
use Rattle.wave.specs.Carried.{place_of, turned}
use Rattle.wave.specs.Cosine.{scale_f, steps_of}

-- what the cast of a floor to a whole number asks, and its size
pub record Castable (f : Float) : Type 0 where
  pub above : T (le (fin true 1 (pos 63)) f)
  pub below : T (lt f (fin false 1 (pos 63)))
  pub size : unsigned_abs (to_signed 63 f) ≤ 4503599627370496

-- the value at a place, which may lie behind the first turn, as a double
abbrev pub place_f : ℕ → Float
place_f p = of_int binary64 (turned (p % 4096))

-- the part x of the way from place p to the next
abbrev pub line_from : ℕ → Float → Float
line_from p x = line_on x (place_f p) (place_f (p + 1)) *f scale_f

-- so many places ahead of k
abbrev pub line_at : ℕ → Float → Float
line_at ahead k = line_from (place_of (steps_of k) + ahead) (split_of k).frac
