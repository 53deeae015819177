-- Whole numbers with a sign are equal where the pairs of naturals that they are the differences of say so. Assumes nothing.
use Rattle.std.proofs.Common.{◌≡◌, ℕ, suc, ◌*◌, ◌≤◌, ℤ, pos, negsuc, ◌+ℤ◌, ◌-ℤ◌, ◌*ℤ◌, nat_abs, sym, ap, ◌∙◌, subst, arith, w64, SFits, to_z, of_z}
use mir.ValLaws.{to_z-of_z}
use Rattle.exact.specs.Whole.{Whole, ◌⊕◌, ◌⊙◌, Same}
use Rattle.exact.specs.Integers.{pair_of, Is}
use Rattle.exact.proofs.Integers.{pair_is, pair_abs, neg_is, plus_is, abs_le}
use Rattle.whole.proofs.Casts.{abs_fits}

pub same_int : (z y : ℤ) (v w : Whole) → Is z v → Is y w → Same v w → z ≡ y
same_int (pos a) (pos b) v w h k e = ap pos (omega arith)
same_int (pos a) (negsuc b) v w h k e = absurd (omega arith)
same_int (negsuc a) (pos b) v w h k e = absurd (omega arith)
same_int (negsuc a) (negsuc b) v w h k e = ap negsuc (omega arith)

pub is_same : (z : ℤ) (v w : Whole) → Is z v → Is z w → Same v w
is_same (pos a) v w h k = omega arith
is_same (negsuc a) v w h k = omega arith

pub by_is : (z : ℤ) (n : ℕ) (v : Whole) → Is z v → Is (z *ℤ pos n) (n ⊙ v)
by_is (pos a) n v h = omega (arith, ap (λ (x : ℕ). n * x) h)
by_is (negsuc a) n v h = neg_is (pos (suc a * n)) (n * v.1, n * v.0) (omega (arith, ap (λ (x : ℕ). n * x) h))

-- z * n + m
pub at_is : (z : ℤ) (n m : ℕ) (v : Whole) → Is z v → Is (z *ℤ pos n +ℤ pos m) (n ⊙ v ⊕ (m, 0))
at_is z n m v h = plus_is (z *ℤ pos n) (pos m) (n ⊙ v) (m, 0) (by_is z n v h) (omega arith)

-- one less, in the machine: what it asks, and what it gives
pub lowered : (z : ℤ) → nat_abs z ≤ 4503599627370496 → SFits w64 (to_z w64 (of_z w64 z) -ℤ pos 1) × (to_z w64 (of_z w64 (to_z w64 (of_z w64 z) -ℤ pos 1)) ≡ z -ℤ pos 1)
lowered z h =
    let a = pair_abs z in
    let e : to_z w64 (of_z w64 z) ≡ z = to_z-of_z w64 z (abs_fits z (omega arith)) in
    let w = abs_fits (z -ℤ pos 1) (abs_le 4611686018427387904 (z -ℤ pos 1) (pair_of z ⊕ (0, 1)) (plus_is z (negsuc 0) (pair_of z) (0, 1) (pair_is z) (pair_is (negsuc 0))) (omega arith) (omega arith)) in
    (subst (λ (y : ℤ). SFits w64 (y -ℤ pos 1)) (sym e) w, ap (λ (y : ℤ). to_z w64 (of_z w64 (y -ℤ pos 1))) e ∙ to_z-of_z w64 (z -ℤ pos 1) w)
