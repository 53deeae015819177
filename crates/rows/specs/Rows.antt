-- Document 01, "Kernels": coefficients are whole numbers held as rows, one row per power of x, here the highest power first; rows are
-- summed left to right, zero entries skipped, then Horner, then times the scale. Definitions only.
use Rattle.std.specs.Prelude.{Bool, true, false, cond, ℕ, zero, suc, ℤ, pos, negsuc, neg_ℤ, Float}
use mathlib.Core.List.{List, [], ◌∷◌, foldl}
use Rattle.std.specs.Float.{binary64}
use Rattle.std.specs.Float.Ieee.{of_int}
use Rattle.exact.specs.Doubles.{◌+f◌, ◌*f◌, ◌/f◌, count, zero_f, one_f}

abbrev pub is_zero : ℤ → Bool
is_zero (pos zero) = true
is_zero (pos (suc n)) = false
is_zero (negsuc n) = false

-- the coefficient c times the sample y
abbrev pub term : ℤ → Float → Float
term c y = of_int binary64 c *f y

-- a row's terms on the samples ys, zero entries skipped
unfoldable pub terms : List ℤ → List Float → List Float
terms [] ys = []
terms (c ∷ cs) [] = []
terms (c ∷ cs) (y ∷ ys) = cond (is_zero c) (terms cs ys) (term c y ∷ terms cs ys)

-- summed left to right from the first: no term is added to 0.0, and where there is none the sum is 0.0
unfoldable pub left_to_right : List Float → Float
left_to_right [] = zero_f
left_to_right (t ∷ ts) = foldl (λ s u. s +f u) t ts

-- a row's sum on the samples ys
unfoldable pub row_sum : List ℤ → List Float → Float
unfolding terms left_to_right
row_sum cs ys = left_to_right (terms cs ys)

-- Horner: the next row's sum plus x times what the rows before it gave
unfoldable pub horner : Float → List Float → Float → List (List ℤ) → Float
horner x ys acc [] = acc
horner x ys acc (r ∷ rs) = horner x ys (row_sum r ys +f x *f acc) rs

-- Horner begins with the highest row's sum itself; then times the scale
unfoldable pub kernel : List (List ℤ) → Float → Float → List Float → Float
kernel [] scale x ys = zero_f
kernel (r ∷ rs) scale x ys = scale *f horner x ys (row_sum r ys) rs

-- -n, for the tables
abbrev pub minus : ℕ → ℤ
minus n = neg_ℤ (pos n)

abbrev pub septic_rows : List (List ℤ)
septic_rows =
    (minus 1 ∷ pos 7 ∷ minus 21 ∷ pos 35 ∷ minus 35 ∷ pos 21 ∷ minus 7 ∷ pos 1 ∷ []) ∷
    (pos 7 ∷ minus 42 ∷ pos 105 ∷ minus 140 ∷ pos 105 ∷ minus 42 ∷ pos 7 ∷ pos 0 ∷ []) ∷
    (minus 7 ∷ minus 14 ∷ pos 189 ∷ minus 490 ∷ pos 595 ∷ minus 378 ∷ pos 119 ∷ minus 14 ∷ []) ∷
    (minus 35 ∷ pos 420 ∷ minus 1365 ∷ pos 1960 ∷ minus 1365 ∷ pos 420 ∷ minus 35 ∷ pos 0 ∷ []) ∷
    (pos 56 ∷ minus 497 ∷ pos 336 ∷ pos 1715 ∷ minus 3080 ∷ pos 1869 ∷ minus 448 ∷ pos 49 ∷ []) ∷
    (pos 28 ∷ minus 378 ∷ pos 3780 ∷ minus 6860 ∷ pos 3780 ∷ minus 378 ∷ pos 28 ∷ pos 0 ∷ []) ∷
    (minus 48 ∷ pos 504 ∷ minus 3024 ∷ minus 1260 ∷ pos 5040 ∷ minus 1512 ∷ pos 336 ∷ minus 36 ∷ []) ∷
    (pos 0 ∷ pos 0 ∷ pos 0 ∷ pos 5040 ∷ pos 0 ∷ pos 0 ∷ pos 0 ∷ pos 0 ∷ []) ∷
    []

abbrev pub quintic_rows : List (List ℤ)
quintic_rows =
    (minus 1 ∷ pos 5 ∷ minus 10 ∷ pos 10 ∷ minus 5 ∷ pos 1 ∷ []) ∷
    (pos 5 ∷ minus 20 ∷ pos 30 ∷ minus 20 ∷ pos 5 ∷ pos 0 ∷ []) ∷
    (minus 5 ∷ minus 5 ∷ pos 50 ∷ minus 70 ∷ pos 35 ∷ minus 5 ∷ []) ∷
    (minus 5 ∷ pos 80 ∷ minus 150 ∷ pos 80 ∷ minus 5 ∷ pos 0 ∷ []) ∷
    (pos 6 ∷ minus 60 ∷ minus 40 ∷ pos 120 ∷ minus 30 ∷ pos 4 ∷ []) ∷
    (pos 0 ∷ pos 0 ∷ pos 120 ∷ pos 0 ∷ pos 0 ∷ pos 0 ∷ []) ∷
    []

-- the doubles 1/5040 and 1/120
abbrev pub per5040 : Float
per5040 = one_f /f count 5040

abbrev pub per120 : Float
per120 = one_f /f count 120

-- the rows, then Horner, then times the double 1/120 or 1/5040
abbrev pub quintic : Float → List Float → Float
quintic x ys = kernel quintic_rows per120 x ys

abbrev pub septic : Float → List Float → Float
septic x ys = kernel septic_rows per5040 x ys
