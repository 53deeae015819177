-- Numbers as words: when a word is a decimal number or a bit pattern, and which, and how a word is read byte by byte. Definitions only.
use Rattle.std.specs.Prelude.{Bool, true, cond, ◌&&◌, List, [], ◌∷◌, ℕ, ◌+◌, ◌*◌, ◌^◌, min, eqb, ltb, length, Option, Some, None}
use Rattle.text.specs.Digits.{digit_of, numeral_from}
use Rattle.text.specs.declared.words.Run.{Run}

-- the number of a word in the base b
abbrev pub numeral : ℕ → List ℕ → ℕ
numeral b w = numeral_from b 0 w

-- every byte of the word is a digit of the base b
unfoldable pub only_digits : ℕ → List ℕ → Bool
only_digits b [] = true
only_digits b (c ∷ w) = ltb (digit_of c) b && only_digits b w

-- "Whole numbers are decimal, up to 2^64-1": one digit or more, and nothing else
abbrev pub decimal_of : List ℕ → Option ℕ
decimal_of w = cond (only_digits 10 w && ltb 0 (length w) && ltb (numeral 10 w) (2 ^ 64)) (Some (numeral 10 w)) None

-- "Floats are 16 lowercase hex digits of their bits"
abbrev pub hex_of : List ℕ → Option ℕ
hex_of w = cond (only_digits 16 w && eqb (length w) 16) (Some (numeral 16 w)) None

-- ---- byte by byte
-- so many digits, where 17 stands for more than 16, and their number
abbrev pub digits : ℕ → ℕ → Option Run
digits n v = Some (record { count = n; number = v })

-- what a word in the base b has come to
abbrev pub run_of : ℕ → List ℕ → Option Run
run_of b w = cond (only_digits b w && ltb (numeral b w) (2 ^ 64)) (digits (min (length w) 17) (numeral b w)) None

abbrev pub no_digits : Option Run
no_digits = digits 0 0

-- one digit more, d
unfoldable pub step_digit : ℕ → ℕ → ℕ → ℕ → Option Run
step_digit b n v d = cond (ltb d b && ltb (v * b + d) (2 ^ 64)) (digits (min (n + 1) 17) (v * b + d)) None

-- one byte more
abbrev pub step_run : ℕ → Option Run → ℕ → Option Run
step_run b (Some r) c = step_digit b r.count r.number (digit_of c)
step_run b None c = None

-- the word has ended
abbrev pub decimal_done : Option Run → Option ℕ
decimal_done (Some r) = cond (ltb 0 r.count) (Some r.number) None
decimal_done None = None

abbrev pub hex_done : Option Run → Option ℕ
hex_done (Some r) = cond (eqb r.count 16) (Some r.number) None
hex_done None = None
