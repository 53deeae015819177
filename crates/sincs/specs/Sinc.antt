-- src/sinc.rs, by the wave: sinc(v) = sin(pi*v)/(pi*v), and the values of a windowed sinc. Definitions only.
use Rattle.std.specs.Prelude.{ℕ, ◌*◌, ◌/◌, Bool, cond, ◌&&◌, from_bits, Float}
use Rattle.std.specs.Float.{binary64}
use Rattle.std.specs.Float.Ieee.{neg, lt}
use Rattle.exact.specs.Doubles.{◌-f◌, ◌*f◌, ◌/f◌, count, one_f}
use Rattle.windows.specs.declared.WindowFunction.{WindowFunction}
use Rattle.wave.specs.Cosine.{sine_at}
use Rattle.window_points.specs.Points.{point_at}

-- 2 ^ -27
abbrev pub tiny_f : Float
tiny_f = from_bits binary64 0x3e40_0000_0000_0000

-- the double nearest to pi
abbrev pub pi_f : Float
pi_f = from_bits binary64 0x4009_21fb_5444_2d18

-- 2048: half a turn, in steps of the wave
abbrev pub half_turn_f : Float
half_turn_f = from_bits binary64 0x40a0_0000_0000_0000

-- pi*v in steps of the wave
abbrev pub steps_of : Float → Float
steps_of v = half_turn_f *f v

-- |v| below 2^-27: there sinc is within 2^-53 of 1
abbrev pub tiny : Float → Bool
tiny v = lt (neg tiny_f) v && lt v tiny_f

unfoldable pub sinc_of : Float → Float
sinc_of v = cond (tiny v) one_f (sine_at (steps_of v) /f (v *f pi_f))

-- where value x of `tot` stands: (x - floor(tot/2)) * cutoff / factor
abbrev pub place_of : ℕ → ℕ → Float → ℕ → Float
place_of tot factor cutoff x = (count x -f count (tot / 2)) *f cutoff /f count factor

-- value x of the windowed sinc over points * factor values
unfoldable pub value_at : ℕ → ℕ → Float → WindowFunction → ℕ → Float
value_at points factor cutoff w x = point_at w x (points * factor) *f sinc_of (place_of (points * factor) factor cutoff x)
