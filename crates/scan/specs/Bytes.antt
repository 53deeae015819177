-- Where a byte first stands in a list. Definitions only.
use Rattle.std.specs.Prelude.{ℕ, cond, List, length, ◌==◌, nat_lt, Option, Some, None}
use Rattle.std.specs.List.{position_or_len}

-- the place of the first b, or the list's length where there is none
abbrev pub index_of : ℕ → List ℕ → ℕ
index_of b xs = position_or_len (λ x. x == b) xs

-- the place of the first b, if there is one
abbrev pub place_of : ℕ → List ℕ → Option ℕ
place_of b xs = cond (nat_lt (index_of b xs) (length xs)) (Some (index_of b xs)) None
