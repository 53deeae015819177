-- Document 02, R-3: "then cosine .. Between entries use a straight line." k is a float in steps of the wave, so the angle is k*pi/2048. Definitions only.
use Rattle.std.specs.Prelude.{[], ℤ, pos, ◌+ℤ◌, ◌-ℤ◌, from_bits, Float}
use Rattle.std.specs.Float.{binary64}
use Rattle.std.specs.Float.Ieee.{of_int, to_signed}
use Rattle.exact.specs.Doubles.{◌*f◌}
use Rattle.exact.specs.Samples.{line_on}
use Rattle.error.specs.Refusals.{Said, given, unless}
use Rattle.whole.specs.Rounded.{split_of}
use Rattle.whole.specs.Small.{small}
use Rattle.wave.specs.Carried.{carried}

-- 2 ^ -30
abbrev pub scale_f : Float
scale_f = from_bits binary64 0x3e10_0000_0000_0000

-- c(n) as a double
abbrev pub step_f : ℤ → Float
step_f n = of_int binary64 (carried n)

-- the part x of the way from step n to the next: (a + x*(b - a)) * 2^-30 with a = c(n) and b = c(n+1)
abbrev pub between : ℤ → Float → Float
between n x = line_on x (step_f n) (step_f (n +ℤ pos 1)) *f scale_f

-- the floor of k, which `split` gives as a double, as a whole number; below 2^52 in size the cast cuts nothing
abbrev pub steps_of : Float → ℤ
steps_of k = to_signed 63 (split_of k).floor

unfoldable pub cosine_at : Float → Float
cosine_at k = between (steps_of k) (split_of k).frac

-- the sine is the cosine a quarter of a turn before: a = c(f - 1024), b = c(f - 1023). Not the cosine of k - 1024: of a small k that difference is rounded
unfoldable pub sine_at : Float → Float
sine_at k = between (steps_of k -ℤ pos 1024) (split_of k).frac

-- |k| below 2^52, else 11
abbrev pub cosine_said : Float → Said Float
cosine_said k = unless (small k) 11 [] (given (cosine_at k))

abbrev pub sine_said : Float → Said Float
sine_said k = unless (small k) 11 [] (given (sine_at k))
