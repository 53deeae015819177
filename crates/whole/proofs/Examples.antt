-- Worked examples, by bit pattern: the sign of a zero, what goes to zero, subnormals, halves, where fractions end, the fraction 1.0, and what is no number. Assumes nothing.
use mathlib.Core.Path.{◌≡◌, refl}
use Prim.Native.Nat.{ℕ}
use lib.Ieee.{Float, nan, binary64, neg, sub, of_int, of_bits}
use Rattle.whole.specs.Rounded.{made_whole, floor_of, ceil_of, trunc_of, round_of, split_of}
use Rattle.whole.specs.declared.Parts.{Parts}

-- the double with these bits
abbrev bits : ℕ → Float
bits n = of_bits binary64 n

abbrev parts : ℕ → ℕ → Parts
parts w f = record { floor = bits w; frac = bits f }

-- ---- a zero keeps its sign; a number that goes to zero keeps its own
floor_minus_zero : floor_of (bits 0x8000_0000_0000_0000) ≡ bits 0x8000_0000_0000_0000
unfolding made_whole of_int of_bits neg
floor_minus_zero = refl

-- of -0.3 the ceiling and the whole part are -0.0
ceil_small : ceil_of (bits 0xbfd3_3333_3333_3333) ≡ bits 0x8000_0000_0000_0000
unfolding made_whole of_int of_bits neg
ceil_small = refl

trunc_small : trunc_of (bits 0xbfd3_3333_3333_3333) ≡ bits 0x8000_0000_0000_0000
unfolding made_whole of_int of_bits neg
trunc_small = refl

floor_small : floor_of (bits 0xbfd3_3333_3333_3333) ≡ bits 0xbff0_0000_0000_0000
unfolding made_whole of_int of_bits neg
floor_small = refl

round_small : round_of (bits 0xbfd3_3333_3333_3333) ≡ bits 0x8000_0000_0000_0000
unfolding made_whole of_int of_bits neg
round_small = refl

-- ---- subnormals, and the numbers next to 1: of 2 ^ -1074 the floor is 0, of -2 ^ -1074 it is -1 and the whole part -0.0; of the double before 1 the floor is 0, of 1 it is 1
floor_least : floor_of (bits 1) ≡ bits 0
unfolding made_whole of_int of_bits
floor_least = refl

floor_minus_least : floor_of (bits 0x8000_0000_0000_0001) ≡ bits 0xbff0_0000_0000_0000
unfolding made_whole of_int of_bits neg
floor_minus_least = refl

trunc_minus_least : trunc_of (bits 0x8000_0000_0000_0001) ≡ bits 0x8000_0000_0000_0000
unfolding made_whole of_int of_bits neg
trunc_minus_least = refl

floor_before_one : floor_of (bits 0x3fef_ffff_ffff_ffff) ≡ bits 0
unfolding made_whole of_int of_bits
floor_before_one = refl

floor_one : floor_of (bits 0x3ff0_0000_0000_0000) ≡ bits 0x3ff0_0000_0000_0000
unfolding made_whole of_int of_bits
floor_one = refl

-- ---- halves: of 0.5, -0.5, 2.5 and -2.5 the nearest are 1, -1, 3 and -3; of the double before 0.5 it is 0
round_half : round_of (bits 0x3fe0_0000_0000_0000) ≡ bits 0x3ff0_0000_0000_0000
unfolding made_whole of_int of_bits
round_half = refl

round_minus_half : round_of (bits 0xbfe0_0000_0000_0000) ≡ bits 0xbff0_0000_0000_0000
unfolding made_whole of_int of_bits neg
round_minus_half = refl

round_two_half : round_of (bits 0x4004_0000_0000_0000) ≡ bits 0x4008_0000_0000_0000
unfolding made_whole of_int of_bits
round_two_half = refl

round_minus_two_half : round_of (bits 0xc004_0000_0000_0000) ≡ bits 0xc008_0000_0000_0000
unfolding made_whole of_int of_bits neg
round_minus_two_half = refl

round_before_half : round_of (bits 0x3fdf_ffff_ffff_ffff) ≡ bits 0
unfolding made_whole of_int of_bits
round_before_half = refl

-- ---- large: 2 ^ 51 and a half has the floor 2 ^ 51, and 2 ^ 52 less a half, the last with a fraction, 2 ^ 52 - 1; 2 ^ 52 + 1 has none and is itself, and so are 2 ^ 53 + 2 and the largest double
floor_large : floor_of (bits 0x4320_0000_0000_0001) ≡ bits 0x4320_0000_0000_0000
unfolding made_whole of_int of_bits
floor_large = refl

floor_last_half : floor_of (bits 0x432f_ffff_ffff_ffff) ≡ bits 0x432f_ffff_ffff_fffe
unfolding made_whole of_int of_bits
floor_last_half = refl

floor_larger : floor_of (bits 0x4340_0000_0000_0001) ≡ bits 0x4340_0000_0000_0001
unfolding made_whole of_int of_bits
floor_larger = refl

floor_largest : floor_of (bits 0x7fef_ffff_ffff_ffff) ≡ bits 0x7fef_ffff_ffff_ffff
unfolding made_whole of_int of_bits
floor_largest = refl

round_large : round_of (bits 0x4330_0000_0000_0001) ≡ bits 0x4330_0000_0000_0001
unfolding made_whole of_int of_bits
round_large = refl

-- ---- the split of 2.5, of -2.5, of -0.0, whose fraction is +0.0, and of -2 ^ -60, whose fraction is 1.0
split_two_half : split_of (bits 0x4004_0000_0000_0000) ≡ parts 0x4000_0000_0000_0000 0x3fe0_0000_0000_0000
unfolding made_whole of_int of_bits sub
split_two_half = refl

split_minus_two_half : split_of (bits 0xc004_0000_0000_0000) ≡ parts 0xc008_0000_0000_0000 0x3fe0_0000_0000_0000
unfolding made_whole of_int of_bits neg sub
split_minus_two_half = refl

split_minus_zero : split_of (bits 0x8000_0000_0000_0000) ≡ parts 0x8000_0000_0000_0000 0
unfolding made_whole of_int of_bits neg sub
split_minus_zero = refl

split_one : split_of (bits 0xbc30_0000_0000_0000) ≡ parts 0xbff0_0000_0000_0000 0x3ff0_0000_0000_0000
unfolding made_whole of_int of_bits neg sub
split_one = refl

-- ---- no number, and the infinities: themselves; their fraction is no number
floor_nan : floor_of (bits 0x7ff8_0000_0000_0000) ≡ nan
unfolding made_whole of_bits
floor_nan = refl

floor_inf : floor_of (bits 0x7ff0_0000_0000_0000) ≡ bits 0x7ff0_0000_0000_0000
unfolding made_whole of_bits
floor_inf = refl

ceil_minus_inf : ceil_of (bits 0xfff0_0000_0000_0000) ≡ bits 0xfff0_0000_0000_0000
unfolding made_whole of_bits
ceil_minus_inf = refl

split_inf : split_of (bits 0x7ff0_0000_0000_0000) ≡ record { floor = bits 0x7ff0_0000_0000_0000; frac = nan }
unfolding made_whole of_bits sub
split_inf = refl
