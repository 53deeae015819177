-- What the four say of numbers. A number is given by its exact value v, as a whole number of units of which U make one: of 2 ^ -1074, so U is 2 ^ 1074.
-- w stands for the whole number that is made of it. Definitions only.
use Rattle.std.specs.Prelude.{Bool, ◌≡◌, ℕ, ◌+◌, ◌*◌, ◌^◌, ◌≤◌, ◌<◌, Float}
use Rattle.std.specs.Float.{binary64}
use Rattle.std.specs.Float.Ieee.{low}
use Rattle.exact.specs.Whole.{Whole, signed, ◌⊕◌, ◌⊖◌, ◌⊙◌, Same, Less, AtMost, Within}
use Rattle.exact.specs.Exact.{exact, Number}
use Rattle.exact.specs.Rounding.{slack}
use Rattle.whole.specs.Rounded.{whole_f}

-- w is a whole number of ones
pub record Ones (U : ℕ) (w : Whole) : Type 0 where
  pub ones : Whole
  pub is : Same w (U ⊙ ones)

-- w is the greatest whole number not above v
pub record Greatest (U : ℕ) (v w : Whole) : Type 0 where
  pub whole : Ones U w
  pub at_most : AtMost w v
  pub near : Less v (w ⊕ (U, 0))
  pub greatest : (k : Whole) → AtMost (U ⊙ k) v → AtMost (U ⊙ k) w

-- w is the least whole number not below v
pub record Least (U : ℕ) (v w : Whole) : Type 0 where
  pub whole : Ones U w
  pub at_least : AtMost v w
  pub near : Less w (v ⊕ (U, 0))
  pub least : (k : Whole) → AtMost v (U ⊙ k) → AtMost w (U ⊙ k)

-- w is v without its fraction: v is `size` with a sign, and w has that sign and `ones` for its size
pub record Toward (U : ℕ) (v w : Whole) : Type 0 where
  pub sign : Bool
  pub size : ℕ
  pub ones : ℕ
  pub from : v ≡ signed sign size
  pub to : w ≡ signed sign (ones * U)
  pub at_most : ones * U ≤ size
  pub near : size < ones * U + U

-- w is the nearest whole number, and of two that are as near the one away from zero: its size can be a half more than v's, and not a half less
pub record Nearest (U : ℕ) (v w : Whole) : Type 0 where
  pub sign : Bool
  pub size : ℕ
  pub ones : ℕ
  pub from : v ≡ signed sign size
  pub to : w ≡ signed sign (ones * U)
  pub over : 2 * (ones * U) ≤ 2 * size + U
  pub under : 2 * size < 2 * (ones * U) + U

-- the double y is the whole number `ones` with a sign, at most 2 ^ k in size
pub record Counted (k : ℕ) (y : Float) : Type 0 where
  pub sign : Bool
  pub ones : ℕ
  pub is : y ≡ whole_f sign ones
  pub number : Number binary64 y
  pub value : exact binary64 y ≡ signed sign (ones * 2 ^ low binary64)
  pub at_most : ones ≤ 2 ^ k

-- x - w, where w is the greatest whole number not above x, rounded once: y is at least 0, at most 1, and at most 2 ^ -54 away from the exact difference
pub record Fraction (x w y : Float) : Type 0 where
  pub number : Number binary64 y
  pub at_least : AtMost (0, 0) (exact binary64 y)
  pub at_most : AtMost (exact binary64 y) (2 ^ low binary64, 0)
  pub near : Within (slack binary64 0) (exact binary64 y) (exact binary64 x ⊖ exact binary64 w)
