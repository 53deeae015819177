-- A row of tests: where the first n hold each of them does, and where they do not one of them fails. Assumes nothing.
use mathlib.Core.Bool.{Bool, true, false, ◌&&◌, and-true, true≢false, and-eq-true_iff}
use mathlib.Core.Logic.{⊎_elim}
use mathlib.Core.Path.{◌≡◌, refl, sym, ap, ◌∙◌}
use Prim.Native.Nat.{ℕ, zero, suc, ◌<◌}
use native.Mathlib.Nat.{le_refl, le_step, not-suc-le-zero, eq-or-lt_of_le, le_of_suc-le-suc}

abbrev pub first_hold : (ℕ → Bool) → ℕ → Bool
first_hold b zero = true
first_hold b (suc n) = first_hold b n && b n

module _ (b : ℕ → Bool) where
  pub each_holds : (n : ℕ) → first_hold b n ≡ true → (k : ℕ) → k < n → b k ≡ true
  each_holds zero h k l = absurd (not-suc-le-zero l)
  each_holds (suc n) h k l =
      let p = (and-eq-true_iff (first_hold b n) (b n)).0 h in
      ⊎_elim (λ (e : k ≡ n). rw e p.1) (λ (e : k < n). each_holds n p.0 k e) (eq-or-lt_of_le (le_of_suc-le-suc l))

  pub some_fails : (n : ℕ) → first_hold b n ≡ false → (k : ℕ) × (k < n) × (b k ≡ false)
  some_fails zero h = absurd (true≢false h)
  some_fails (suc n) h = go (b n) refl (some_fails n)
    where
      go : (c : Bool) → b n ≡ c → (first_hold b n ≡ false → (k : ℕ) × (k < n) × (b k ≡ false)) → (k : ℕ) × (k < suc n) × (b k ≡ false)
      go false e less = (n, le_refl (suc n), e)
      go true e less =
          let r = less (sym (and-true (first_hold b n)) ∙ ap (λ (c : Bool). first_hold b n && c) (sym e) ∙ h) in
          (r.0, le_step r.1, r.2)

  pub fails_some : (n k : ℕ) → k < n → b k ≡ false → first_hold b n ≡ false
  fails_some n k l h = go (first_hold b n) refl
    where
      go : (c : Bool) → first_hold b n ≡ c → c ≡ false
      go false e = refl
      go true e = absurd (true≢false (sym (each_holds n e k l) ∙ h))
