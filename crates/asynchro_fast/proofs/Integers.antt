-- What the library's integers lack: the product distributes over the sum, and is associative. Assumes nothing.
use mathlib.Core.Path.{◌≡◌, sym, ap, ◌∙◌}
use Prim.Native.Nat.{zero, suc}
use lib.IntN.{ℤ, pos, negsuc, suc_ℤ, pred_ℤ, neg_ℤ, ◌+ℤ◌, ◌-ℤ◌, ◌*ℤ◌, +ℤ_idl, +ℤ_assoc, +ℤ_comm, +ℤ_invl, +ℤ-neg_ℤ_cancel, suc_ℤ-+ℤ, pred_ℤ-+ℤ, zero-*ℤ, suc_ℤ-*ℤ, pred_ℤ-*ℤ, *ℤ_comm}

-- the last two summands change places
pub swap_last : (a b c : ℤ) → a +ℤ b +ℤ c ≡ a +ℤ c +ℤ b
swap_last a b c = +ℤ_assoc a b c ∙ ap (λ (t : ℤ). a +ℤ t) (+ℤ_comm b c) ∙ sym (+ℤ_assoc a c b)

-- the middle two of four change places
pub swap_middle : (a b c d : ℤ) → (a +ℤ b) +ℤ (c +ℤ d) ≡ (a +ℤ c) +ℤ (b +ℤ d)
swap_middle a b c d = sym (+ℤ_assoc (a +ℤ b) c d) ∙ ap (λ (t : ℤ). t +ℤ d) (swap_last a b c) ∙ +ℤ_assoc (a +ℤ c) b d

-- what holds of 0, and with a number of the next and of the one before, holds of all
by_units : (P : ℤ → Type 0) → P (pos 0) → ((a : ℤ) → P a → P (suc_ℤ a)) → ((a : ℤ) → P a → P (pred_ℤ a)) → (a : ℤ) → P a
by_units P z up down (pos zero) = z
by_units P z up down (pos (suc n)) = up (pos n) (by_units P z up down (pos n))
by_units P z up down (negsuc zero) = down (pos 0) z
by_units P z up down (negsuc (suc n)) = down (negsuc n) (by_units P z up down (negsuc n))

module _ (b k : ℤ) where
  -- from a to a' with a' * k = a * k + u
  add_step : (a a' u : ℤ) → (a' +ℤ b) *ℤ k ≡ (a +ℤ b) *ℤ k +ℤ u → a' *ℤ k ≡ a *ℤ k +ℤ u → (a +ℤ b) *ℤ k ≡ a *ℤ k +ℤ b *ℤ k
      → (a' +ℤ b) *ℤ k ≡ a' *ℤ k +ℤ b *ℤ k
  add_step a a' u s m h =
      s ∙ ap (λ (t : ℤ). t +ℤ u) h ∙ swap_last (a *ℤ k) (b *ℤ k) u ∙ ap (λ (t : ℤ). t +ℤ b *ℤ k) (sym m)

-- (a + b) * k = a * k + b * k
pub add-mul : (a b k : ℤ) → (a +ℤ b) *ℤ k ≡ a *ℤ k +ℤ b *ℤ k
add-mul a b k =
    by_units (λ a. (a +ℤ b) *ℤ k ≡ a *ℤ k +ℤ b *ℤ k)
    (ap (λ (t : ℤ). t *ℤ k) (+ℤ_idl b) ∙ sym (ap (λ (t : ℤ). t +ℤ b *ℤ k) (zero-*ℤ k) ∙ +ℤ_idl (b *ℤ k)))
    (λ a. add_step b k a (suc_ℤ a) k (ap (λ (t : ℤ). t *ℤ k) (suc_ℤ-+ℤ a b) ∙ suc_ℤ-*ℤ (a +ℤ b) k) (suc_ℤ-*ℤ a k))
    (λ a. add_step b k a (pred_ℤ a) (neg_ℤ k) (ap (λ (t : ℤ). t *ℤ k) (pred_ℤ-+ℤ a b) ∙ pred_ℤ-*ℤ (a +ℤ b) k) (pred_ℤ-*ℤ a k))
    a

-- k * (a + b) = k * a + k * b
pub mul-add : (k a b : ℤ) → k *ℤ (a +ℤ b) ≡ k *ℤ a +ℤ k *ℤ b
mul-add k a b =
    *ℤ_comm k (a +ℤ b) ∙ add-mul a b k ∙ ap (λ (t : ℤ). t +ℤ b *ℤ k) (*ℤ_comm a k) ∙ ap (λ (t : ℤ). k *ℤ a +ℤ t) (*ℤ_comm b k)

neg_mul : (b k : ℤ) → neg_ℤ b *ℤ k ≡ neg_ℤ (b *ℤ k)
neg_mul b k =
    let none : neg_ℤ b *ℤ k +ℤ b *ℤ k ≡ pos 0 = sym (add-mul (neg_ℤ b) b k) ∙ ap (λ (t : ℤ). t *ℤ k) (+ℤ_invl b) ∙ zero-*ℤ k in
    sym (+ℤ-neg_ℤ_cancel (neg_ℤ b *ℤ k) (b *ℤ k)) ∙ ap (λ (t : ℤ). t -ℤ b *ℤ k) none ∙ +ℤ_idl (neg_ℤ (b *ℤ k))

module _ (b c : ℤ) where
  assoc_step : (a a' u : ℤ) → a' *ℤ b ≡ a *ℤ b +ℤ u → a' *ℤ (b *ℤ c) ≡ a *ℤ (b *ℤ c) +ℤ u *ℤ c → a *ℤ b *ℤ c ≡ a *ℤ (b *ℤ c)
      → a' *ℤ b *ℤ c ≡ a' *ℤ (b *ℤ c)
  assoc_step a a' u s m h = ap (λ (t : ℤ). t *ℤ c) s ∙ add-mul (a *ℤ b) u c ∙ ap (λ (t : ℤ). t +ℤ u *ℤ c) h ∙ sym m

-- (a * b) * c = a * (b * c)
pub mul_assoc : (a b c : ℤ) → a *ℤ b *ℤ c ≡ a *ℤ (b *ℤ c)
mul_assoc a b c =
    by_units (λ a. a *ℤ b *ℤ c ≡ a *ℤ (b *ℤ c))
    (ap (λ (t : ℤ). t *ℤ c) (zero-*ℤ b) ∙ zero-*ℤ c ∙ sym (zero-*ℤ (b *ℤ c)))
    (λ a. assoc_step b c a (suc_ℤ a) b (suc_ℤ-*ℤ a b) (suc_ℤ-*ℤ a (b *ℤ c)))
    (λ a. assoc_step b c a (pred_ℤ a) (neg_ℤ b) (pred_ℤ-*ℤ a b) (pred_ℤ-*ℤ a (b *ℤ c) ∙ ap (λ (t : ℤ). a *ℤ (b *ℤ c) +ℤ t) (sym (neg_mul b c))))
    a
