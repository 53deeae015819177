-- Which decimals the constants of the windows are: each is the double nearest to it. Assumes nothing.
use Rattle.std.proofs.Common.{◌≡◌, ℕ, ◌^◌, false, refl}
use lib.Ieee.{Float, binary64, round, of_bits}
use Rattle.window_points.specs.Points.{b0_f, b2_f, h0_f, h1_f, h2_f, h3_f}

-- the double nearest to m / 10 ^ d
abbrev decimal : ℕ → ℕ → Float
decimal m d = round binary64 false m (10 ^ d)

pub blackman_are : (b0_f ≡ decimal 42 2) × (b2_f ≡ decimal 8 2)
unfolding round of_bits
blackman_are = (refl, refl)

pub harris_are : (h0_f ≡ decimal 35875 5) × (h1_f ≡ decimal 48829 5) × (h2_f ≡ decimal 14128 5) × (h3_f ≡ decimal 1168 5)
unfolding round of_bits
harris_are = (refl, refl, refl, refl)
