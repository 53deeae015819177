-- Text put into a buffer. Definitions only.
use Rattle.std.specs.Prelude.{cond, List, [], ◌∷◌, ◌++◌, ℕ, zero, suc, ◌+◌, ◌/◌, ◌%◌, leb, ltb, length}
use Rattle.std.proofs.Math.Seq.{paste}

-- the buffer with the text at the place `at`, where there is room for all of it
unfoldable pub put_in : List ℕ → ℕ → List ℕ → List ℕ
put_in out at w = cond (leb (at + length w) (length out)) (paste out at w (length w)) out

-- the place behind a text of k bytes; the end of a buffer of `size` bytes that has no room for it
unfoldable pub place_after : ℕ → ℕ → ℕ → ℕ
place_after size at k = cond (leb (at + k) size) (at + k) size

-- the decimal digits of a number with at most k + 1 of them, and no 0 before the others
unfoldable pub decimal_from : ℕ → ℕ → List ℕ
decimal_from zero n = (48 + n % 10) ∷ []
decimal_from (suc k) n = cond (ltb n 10) ((48 + n) ∷ []) (decimal_from k (n / 10) ++ ((48 + n % 10) ∷ []))

-- of a number below 2 ^ 64
abbrev pub decimal_text : ℕ → List ℕ
decimal_text n = decimal_from 19 n
