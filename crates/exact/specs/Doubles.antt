-- Doubles in definitions: the operations of IEEE 754 on binary64 under short names, the doubles that the code names, and a count as a double. Definitions only.
-- A double is given by its bit pattern, as the code has it; proofs/Doubles.antt says which number each is.
use Rattle.std.specs.Prelude.{Bool, ◌&&◌, ℕ, pos, Float}
use Rattle.std.specs.Float.{binary64}
use Rattle.std.specs.Float.Ieee.{add, sub, mul, div, lt, le, of_int, of_bits}

infixl 6 ◌+f◌
abbrev pub ◌+f◌ : Float → Float → Float
x +f y = add binary64 x y

infixl 6 ◌-f◌
abbrev pub ◌-f◌ : Float → Float → Float
x -f y = sub binary64 x y

infixl 7 ◌*f◌
abbrev pub ◌*f◌ : Float → Float → Float
x *f y = mul binary64 x y

infixl 7 ◌/f◌
abbrev pub ◌/f◌ : Float → Float → Float
x /f y = div binary64 x y

-- a count as a double: the nearest one, which is the count itself up to 2 ^ 53
abbrev pub count : ℕ → Float
count n = of_int binary64 (pos n)

abbrev pub zero_f : Float
zero_f = of_bits binary64 0

abbrev pub one_f : Float
one_f = of_bits binary64 0x3ff0_0000_0000_0000

abbrev pub half_f : Float
half_f = of_bits binary64 0x3fe0_0000_0000_0000

abbrev pub two_f : Float
two_f = of_bits binary64 0x4000_0000_0000_0000

abbrev pub three_f : Float
three_f = of_bits binary64 0x4008_0000_0000_0000

abbrev pub four_f : Float
four_f = of_bits binary64 0x4010_0000_0000_0000

abbrev pub six_f : Float
six_f = of_bits binary64 0x4018_0000_0000_0000

-- the doubles 1/3 and 1/6
abbrev pub third : Float
third = one_f /f three_f

abbrev pub sixth : Float
sixth = one_f /f six_f

-- the code has no literal for infinity: 1.0 / 0.0
abbrev pub inf_f : Float
inf_f = one_f /f zero_f

-- finite and above 0; finite and 1 or more. Every comparison with a NaN is false
abbrev pub above_zero : Float → Bool
above_zero x = lt zero_f x && lt x inf_f

abbrev pub at_least_one : Float → Bool
at_least_one x = le one_f x && lt x inf_f
