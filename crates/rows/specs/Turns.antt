-- What the turns of the loops do, for the contracts of private functions. Nothing here that a reader needs to believe: the proofs show
-- that the turns make the sums and kernels of Rows. Definitions only.
use Rattle.std.specs.Prelude.{cond, List, [], ◌∷◌, ℤ, Float, Option, Some, None}
use Rattle.exact.specs.Doubles.{◌+f◌, ◌*f◌, zero_f}
use Rattle.rows.specs.Rows.{is_zero, term, row_sum, horner}

-- a sum and one term more; the first term starts it
abbrev pub plus : Option Float → Float → Float
plus None t = t
plus (Some s) t = s +f t

-- one entry more: a zero entry leaves the sum as it is
abbrev pub step_part : Option Float → ℤ → Float → Option Float
step_part sum c y = cond (is_zero c) sum (Some (plus sum (term c y)))

-- one row more, whose sum is s; the highest row's sum starts it
abbrev pub row_next : Float → Option Float → Float → Float
row_next x None s = s
row_next x (Some a) s = s +f x *f a

-- Horner over the rows of a table: it begins with the highest row's sum itself
unfoldable pub top : Float → List Float → List (List ℤ) → Float
top x ys [] = zero_f
top x ys (r ∷ rs) = horner x ys (row_sum r ys) rs
