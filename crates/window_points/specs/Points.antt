-- Document 02, R-3: "the six windows (Hann, Blackman, Blackman-Harris and squares, periodic)". Definitions only.
-- A constant is given by its bit pattern, as the code has it; proofs/Constants.antt says which decimal each is.
use Rattle.std.specs.Prelude.{ℕ, ◌*◌, from_bits, Float}
use Rattle.std.specs.Float.{binary64}
use Rattle.exact.specs.Doubles.{◌+f◌, ◌-f◌, ◌*f◌, ◌/f◌, count, half_f}
use Rattle.windows.specs.declared.WindowFunction.{WindowFunction}
use Rattle.windows.specs.declared.WindowFunction.TheVariants.{Blackman, Blackman2, BlackmanHarris, BlackmanHarris2, Hann, Hann2}
use Rattle.wave.specs.Cosine.{cosine_at}

-- cos(2*pi*h*i/n): of (4096*h*i)/n steps of the wave, one division. Periodic: i goes up to n - 1, and n would be a whole turn
abbrev pub steps_at : ℕ → ℕ → ℕ → Float
steps_at h i n = count (4096 * h * i) /f count n

abbrev pub cosine_of : ℕ → ℕ → ℕ → Float
cosine_of h i n = cosine_at (steps_at h i n)

-- 0.42, 0.08
abbrev pub b0_f : Float
b0_f = from_bits binary64 0x3fda_e147_ae14_7ae1

abbrev pub b2_f : Float
b2_f = from_bits binary64 0x3fb4_7ae1_47ae_147b

-- 0.35875, 0.48829, 0.14128, 0.01168
abbrev pub h0_f : Float
h0_f = from_bits binary64 0x3fd6_f5c2_8f5c_28f6

abbrev pub h1_f : Float
h1_f = from_bits binary64 0x3fdf_4024_b33d_af8e

abbrev pub h2_f : Float
h2_f = from_bits binary64 0x3fc2_1576_89ca_18bd

abbrev pub h3_f : Float
h3_f = from_bits binary64 0x3f87_ebaf_1023_63b2

-- point i of n is a0 - a1*cos(2*pi*i/n) + a2*cos(4*pi*i/n) - a3*cos(6*pi*i/n), left to right; a window of fewer terms stops there
-- Hann: 0.5, 0.5
abbrev pub hann_at : ℕ → ℕ → Float
hann_at i n = half_f -f half_f *f cosine_of 1 i n

-- Blackman: 0.42, 0.5, 0.08
abbrev pub blackman_at : ℕ → ℕ → Float
blackman_at i n = b0_f -f half_f *f cosine_of 1 i n +f b2_f *f cosine_of 2 i n

-- Blackman-Harris: 0.35875, 0.48829, 0.14128, 0.01168
abbrev pub harris_at : ℕ → ℕ → Float
harris_at i n = h0_f -f h1_f *f cosine_of 1 i n +f h2_f *f cosine_of 2 i n -f h3_f *f cosine_of 3 i n

-- a square is the product of the window's value with itself
abbrev pub square_of : Float → Float
square_of y = y *f y

unfoldable pub point_at : WindowFunction → ℕ → ℕ → Float
point_at Blackman i n = blackman_at i n
point_at Blackman2 i n = square_of (blackman_at i n)
point_at BlackmanHarris i n = harris_at i n
point_at BlackmanHarris2 i n = square_of (harris_at i n)
point_at Hann i n = hann_at i n
point_at Hann2 i n = square_of (hann_at i n)
