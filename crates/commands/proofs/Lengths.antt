-- The length of a working area fits. Assumes nothing.
use Prim.Native.Nat.{ℕ, ◌*◌, ◌^◌, ◌<◌, ◌≤◌}
use native.Mathlib.Nat.{le_trans, lt_of_le_of_lt, mul-le-mul_left, mul-le-mul_right}
use lib.Dec.{lit<}

-- two numbers up to 2 ^ 17 and 2 ^ 19 have a product that fits
pub small_product : (a b : ℕ) → a ≤ 131072 → b ≤ 524288 → a * b < 2 ^ 64
small_product a b p q = lt_of_le_of_lt (le_trans (mul-le-mul_right b p) (mul-le-mul_left 131072 q)) (lit< tt)
