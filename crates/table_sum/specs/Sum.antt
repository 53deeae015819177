-- The sum of a table, by which a pass names the table that it used. Definitions only.
use Rattle.std.specs.Prelude.{ℕ, ◌+◌, ◌%◌, ◌^◌, List, [], ◌∷◌, to_bits, Float}
use Rattle.std.specs.Float.{binary64}
use Rattle.table_sum.specs.declared.TableSum.{TableSum}

-- modulo 2 ^ 64
abbrev pub wrapped : ℕ → ℕ
wrapped n = n % 2 ^ 64

-- n added to `first`, and the new `first` to `second`
abbrev pub plus_bits : TableSum → ℕ → TableSum
plus_bits s n = record { first = wrapped (s.first + n); second = wrapped (s.second + wrapped (s.first + n)) }

-- one entry more, by its bits
abbrev pub plus_entry : TableSum → Float → TableSum
plus_entry s x = plus_bits s (to_bits binary64 x)

-- the entries in order
unfoldable pub sum_from : TableSum → List Float → TableSum
sum_from s [] = s
sum_from s (x ∷ xs) = sum_from (plus_entry s x) xs

abbrev pub sum_of : List Float → TableSum
sum_of table = sum_from (record { first = 0; second = 0 }) table
