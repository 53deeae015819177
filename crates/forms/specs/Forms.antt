-- A form: a text in which `#` (35) stands for the next number in decimal and `$` (36) for the float whose bits the next number is. Definitions only.
use Rattle.std.specs.Prelude.{cond, ◌||◌, List, [], ◌∷◌, ℕ, zero, suc, ◌+◌, eqb, length, get_or}
use Rattle.std.specs.Float.{binary64}
use Rattle.std.specs.Float.Ieee.{of_bits}
use Rattle.printer.specs.Put.{put_in, place_after, decimal_text}
use Rattle.values.specs.Texts.{value_text}

-- what a byte of a form stands for, where n is the next number
unfoldable pub mark_text : ℕ → ℕ → List ℕ
mark_text mark n = cond (eqb mark 35) (decimal_text n) (cond (eqb mark 36) (value_text (of_bits binary64 n)) (mark ∷ []))

-- how many numbers it takes
abbrev pub taken_by : ℕ → ℕ
taken_by mark = cond (eqb mark 35 || eqb mark 36) 1 0

-- the numbers that the first i bytes of a form take
unfoldable pub taken_to : List ℕ → ℕ → ℕ
taken_to form zero = 0
taken_to form (suc i) = taken_to form i + taken_by (get_or form i 0)

-- what the byte number i of a form stands for
abbrev pub text_at : List ℕ → List ℕ → ℕ → List ℕ
text_at form numbers i = mark_text (get_or form i 0) (get_or numbers (taken_to form i) 0)

-- the place behind the first i bytes of a form in a line of `size` bytes, and the line with their texts; a text that has no room is left out
unfoldable pub place_to : ℕ → List ℕ → List ℕ → ℕ → ℕ
place_to size form numbers zero = 0
place_to size form numbers (suc i) = place_after size (place_to size form numbers i) (length (text_at form numbers i))

unfoldable pub line_to : List ℕ → List ℕ → List ℕ → ℕ → List ℕ
line_to line form numbers zero = line
line_to line form numbers (suc i) = put_in (line_to line form numbers i) (place_to (length line) form numbers i) (text_at form numbers i)
