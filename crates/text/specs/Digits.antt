-- Digits as bytes of ASCII, and the number that a row of them stands for. Definitions only.
use Rattle.std.specs.Prelude.{cond, List, [], ◌∷◌, ℕ, zero, suc, ◌+◌, ◌-◌, ◌*◌, ◌/◌, ◌%◌, ◌^◌, ltb}

-- the byte of a digit below 16: `0` to `9`, then `a` to `f`
abbrev pub glyph_of : ℕ → ℕ
glyph_of d = cond (ltb d 10) (48 + d) (87 + d)

-- the digit of a byte, and 16 of a byte that is none
abbrev pub digit_of : ℕ → ℕ
digit_of b = cond (ltb b 48) 16 (cond (ltb b 58) (b - 48) (cond (ltb b 97) 16 (cond (ltb b 103) (b - 87) 16)))

-- the last k hex digits of n, the highest first
unfoldable pub digits_of : ℕ → ℕ → List ℕ
digits_of zero n = []
digits_of (suc k) n = glyph_of (n / 16 ^ k % 16) ∷ digits_of k n

-- the 16 hex digits of a number below 2 ^ 64
abbrev pub hex_digits : ℕ → List ℕ
hex_digits n = digits_of 16 n

-- the number of a row of bytes in the base b, after the number v: from left to right, b times what stands before a digit, and the digit
unfoldable pub numeral_from : ℕ → ℕ → List ℕ → ℕ
numeral_from b v [] = v
numeral_from b v (c ∷ w) = numeral_from b (v * b + digit_of c) w
