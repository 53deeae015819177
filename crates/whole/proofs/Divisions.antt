-- The three ways to make a fraction a / d whole, each as the whole part or the number after it. Assumes nothing.
use mathlib.Core.Bool.{Bool, true, false, cond}
use mathlib.Core.Logic.{inl, inr}
use mathlib.Core.Path.{◌≡◌, refl}
use Prim.Native.Nat.{ℕ, suc, ◌+◌, ◌*◌, ◌/◌, ◌%◌, ◌≤◌, ◌<◌}
use native.Mathlib.Nat.{le_trans, mod-lt, div-add-mod', div-eq_of_lt-le, div-mul-le_self, le_of_mul-le-mul_right, lt_of_mul-lt-mul_right}
use native.Mathlib.Omega.{arith}
use lib.Dec.{eqb, leb}
use borrow.Author.Tests.{eqb-false, leb-true, leb-false}
use Rattle.whole.specs.Rounded.{part_div, over_div, near_div}
use Rattle.whole.proofs.Held.{Next}

-- one more where a half or more is left over
pub near_is : (a d : ℕ) → 0 < d → near_div a d ≡ cond (leb d (2 * (a % d))) (suc (a / d)) (a / d)
near_is a d D = go (a / d) (a % d) (leb d (2 * (a % d))) refl (div-add-mod' a d) (mod-lt a D)
  where
    go : (q r : ℕ) (b : Bool) → leb d (2 * r) ≡ b → q * d + r ≡ a → r < d → (2 * a + d) / (2 * d) ≡ cond b (suc q) q
    go q r true p e l = let h = leb-true d (2 * r) p in div-eq_of_lt-le {k = suc q} (2 * d) (omega arith) (omega arith)
    go q r false p e l = let h = leb-false d (2 * r) p in div-eq_of_lt-le {k = q} (2 * d) (omega arith) (omega arith)

pub part_next : (a d : ℕ) → Next a d (part_div a d)
part_next a d = inl refl

pub over_next : (a d : ℕ) → Next a d (over_div a d)
over_next a d = go (eqb (a % d) 0) refl
  where
    go : (b : Bool) → eqb (a % d) 0 ≡ b → Next a d (cond b (a / d) (suc (a / d)))
    go true p = inl refl
    go false p = let z = eqb-false (a % d) 0 p in inr (refl, omega arith)

pub near_next : (a d : ℕ) → 0 < d → Next a d (near_div a d)
near_next a d D = rw (near_is a d D) (go (leb d (2 * (a % d))) refl)
  where
    go : (b : Bool) → leb d (2 * (a % d)) ≡ b → Next a d (cond b (suc (a / d)) (a / d))
    go true p = let h = leb-true d (2 * (a % d)) p in inr (refl, omega arith)
    go false p = inl refl

-- ---- a bound: of a fraction up to b each of the three is up to b
pub next_upto : (a d b n : ℕ) → 0 < d → Next a d n → a ≤ b * d → n ≤ b
next_upto a d b n D (inl e) h = rw e (le_of_mul-le-mul_right (le_trans (div-mul-le_self a d) h) D)
next_upto a d b n D (inr (e, r)) h = rw e (lt_of_mul-lt-mul_right d (omega (arith, div-add-mod' a d)))
