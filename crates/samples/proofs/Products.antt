-- The samples of so many frames. Assumes nothing.
use Prim.Native.Nat.{ℕ, ◌*◌, ◌≤◌}
use native.Mathlib.Nat.{le_trans, mul-le-mul_left, mul-le-mul_right}

-- 16 channels of 65,536 frames are 2 ^ 20 samples
pub small_product : (a b : ℕ) → a ≤ 16 → b ≤ 65536 → a * b ≤ 1048576
small_product a b p q = le_trans (mul-le-mul_right b p) (mul-le-mul_left 16 q)
