-- Worked examples beside bench cases 10 and 11: a factor of 1 at a fraction that rounds to 1.0, a half below zero, a part borrowed, and the last t. Assumes nothing.
use Rattle.std.proofs.Common.{◌≡◌, ℕ, [], ◌∷◌, ℤ, pos, negsuc, refl}
use lib.Ieee.{Float, binary64, neg, lt, sub, mul, of_int, of_bits, to_signed, to_unsigned}
use Rattle.error.specs.Refusals.{given, unless}
use Rattle.whole.specs.Rounded.{made_whole}
use Rattle.interpolation.specs.Grid.{point_of, grid_said, nearest1, nearest2, nearest4}
use Rattle.interpolation.specs.declared.Point.{Point}

abbrev bits : ℕ → Float
bits n = of_bits binary64 n

abbrev at : ℤ → ℕ → Point
at i s = record { index = i; subindex = s }

-- two points, t -2^-54, factor 1: both go on to the next whole time
factor_one : nearest2 (bits 0xbc90_0000_0000_0000) 1 ≡ given (at (pos 0) 0 ∷ at (pos 1) 0 ∷ [])
unfolding grid_said point_of unless made_whole of_int of_bits neg lt sub mul to_signed to_unsigned
factor_one = refl

-- one point, t -2.125, factor 4, lies 3.5 parts above -3: a half goes up here too
one_below_zero : nearest1 (bits 0xc001_0000_0000_0000) 4 ≡ given (at (negsuc 1) 0 ∷ [])
unfolding grid_said point_of unless made_whole of_int of_bits neg lt sub mul to_signed to_unsigned
one_below_zero = refl

-- four points, t -1.0, factor 3: q - 1 takes a part from the whole time before
four_borrow : nearest4 (bits 0xbff0_0000_0000_0000) 3 ≡ given (at (negsuc 1) 2 ∷ at (negsuc 0) 0 ∷ at (negsuc 0) 1 ∷ at (negsuc 0) 2 ∷ [])
unfolding grid_said point_of unless made_whole of_int of_bits neg lt sub mul to_signed to_unsigned
four_borrow = refl

-- the last t below 2^52, 2^52 - 0.5, with the largest factor: q has 72 binary digits
last_time : nearest2 (bits 0x432f_ffff_ffff_ffff) 1048576 ≡ given (at (pos 4503599627370495) 524288 ∷ at (pos 4503599627370495) 524289 ∷ [])
unfolding grid_said point_of unless made_whole of_int of_bits neg lt sub mul to_signed to_unsigned
last_time = refl
