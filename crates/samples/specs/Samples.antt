-- A sample as eight bytes, the lowest first. Definitions only.
use Rattle.std.specs.Prelude.{List, [], ◌∷◌, ℕ, zero, suc, ◌+◌, ◌*◌, ◌/◌, ◌%◌, ◌^◌, Float, get_or}
use Rattle.std.specs.Float.{binary64}
use Rattle.std.specs.Float.Ieee.{of_bits}

-- the number of k bytes from the place `at` on
unfoldable pub little_from : List ℕ → ℕ → ℕ → ℕ
little_from bs at zero = 0
little_from bs at (suc k) = get_or bs at 0 + 256 * little_from bs (at + 1) k

-- the number of the eight bytes there
abbrev pub little_at : List ℕ → ℕ → ℕ
little_at bs at = little_from bs at 8

-- the sample there
abbrev pub sample_at : List ℕ → ℕ → Float
sample_at bs at = of_bits binary64 (little_at bs at)

-- k bytes of n from the byte j on
unfoldable pub bytes_from : ℕ → ℕ → ℕ → List ℕ
bytes_from n j zero = []
bytes_from n j (suc k) = (n / 2 ^ (8 * j) % 256) ∷ bytes_from n (j + 1) k

-- the eight bytes of a pattern
abbrev pub eight_of : ℕ → List ℕ
eight_of n = bytes_from n 0 8
