-- The laws of the pairs, said of integers. Assumes nothing.
use mathlib.Core.Bool.{Bool, true, false, not, cond}
use mathlib.Core.Path.{◌≡◌}
use Prim.Native.Nat.{ℕ, zero, suc, ◌+◌, ◌-◌, ◌≤◌, ◌<◌}
use native.Mathlib.Omega.{arith}
use lib.Dec.{T, ltb, ltb→lt, nltb→le}
use lib.IntN.{ℤ, pos, negsuc, neg_ℤ, nat_abs, sub_ℕ, ◌+ℤ◌, ◌-ℤ◌}
use Rattle.exact.specs.Whole.{Whole, ◌⊕◌, Within}
use Rattle.exact.specs.Integers.{Is, pair_of}

pub pair_is : (z : ℤ) → Is z (pair_of z)
pair_is (pos n) = omega arith
pair_is (negsuc n) = omega arith

pub pair_abs : (z : ℤ) → ((pair_of z).0 ≤ nat_abs z) × ((pair_of z).1 ≤ nat_abs z)
pair_abs (pos n) = omega arith
pair_abs (negsuc n) = omega arith

pub minus_is : (a b : ℕ) → Is (sub_ℕ a b) (a, b)
minus_is a b = go (ltb a b) (ltb→lt a b) (nltb→le a b)
  where
    go : (o : Bool) → (T o → a < b) → (T (not o) → b ≤ a) → Is (cond o (negsuc (b - suc a)) (pos (a - b))) (a, b)
    go true u v = omega (arith, u tt)
    go false u v = omega (arith, v tt)

pub neg_is : (z : ℤ) (v : Whole) → Is z v → Is (neg_ℤ z) (v.1, v.0)
neg_is (pos zero) v h = omega arith
neg_is (pos (suc n)) v h = omega arith
neg_is (negsuc n) v h = omega arith

-- the same number by another pair
other : (z : ℤ) (v w : Whole) → v.0 + w.1 ≡ w.0 + v.1 → Is z v → Is z w
other (pos n) v w e h = omega arith
other (negsuc n) v w e h = omega arith

pub plus_is : (z y : ℤ) (v w : Whole) → Is z v → Is y w → Is (z +ℤ y) (v ⊕ w)
plus_is (pos a) (pos b) v w h k = omega arith
plus_is (pos a) (negsuc b) v w h k = other (sub_ℕ a (suc b)) (a, suc b) (v ⊕ w) (omega arith) (minus_is a (suc b))
plus_is (negsuc a) (pos b) v w h k = other (sub_ℕ b (suc a)) (b, suc a) (v ⊕ w) (omega arith) (minus_is b (suc a))
plus_is (negsuc a) (negsuc b) v w h k = omega arith

pub abs_le : (e : ℕ) (z : ℤ) (v : Whole) → Is z v → v.0 ≤ v.1 + e → v.1 ≤ v.0 + e → nat_abs z ≤ e
abs_le e (pos n) v h k l = omega arith
abs_le e (negsuc n) v h k l = omega arith

-- ---- `Within e v w` is |v - w| ≤ e
pub within_int : (e : ℕ) (v w : Whole) (z y : ℤ) → Is z v → Is y w → Within e v w → nat_abs (z -ℤ y) ≤ e
within_int e v w z y p q h = abs_le e (z -ℤ y) (v ⊕ (w.1, w.0)) (plus_is z (neg_ℤ y) v (w.1, w.0) p (neg_is y w q)) (omega arith) (omega arith)
