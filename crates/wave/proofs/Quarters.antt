-- The value in each quarter, as the code reads it from the wave. Assumes nothing.
use Rattle.std.proofs.Common.{◌≡◌, ℕ, zero, suc, ◌-◌, pos, neg_ℤ, refl, ◌∙◌}
use lib.Ieee.{Float, binary64, of_int}
use Rattle.quarter.specs.Rules.{entry}
use Rattle.wave.specs.Carried.{in_quarter}

module _ (w r : ℕ) (y : Float) where
  pub first : w ≡ entry r → (q : ℕ) → q ≡ 0 → y ≡ of_int binary64 (pos w) → y ≡ of_int binary64 (in_quarter q r)
  unfolding in_quarter
  first e q h v = v ∙ rw (e, h)

  pub second : w ≡ entry (1024 - r) → (q : ℕ) → q ≡ 1 → y ≡ of_int binary64 (neg_ℤ (pos w)) → y ≡ of_int binary64 (in_quarter q r)
  unfolding in_quarter
  second e q h v = v ∙ rw (e, h)

  pub third : w ≡ entry r → (q : ℕ) → q ≡ 2 → y ≡ of_int binary64 (neg_ℤ (pos w)) → y ≡ of_int binary64 (in_quarter q r)
  unfolding in_quarter
  third e q h v = v ∙ rw (e, h)

  pub fourth : w ≡ entry (1024 - r) → (q : ℕ) → (q ≡ 0 → ⊥) → (q ≡ 1 → ⊥) → (q ≡ 2 → ⊥) → y ≡ of_int binary64 (pos w) → y ≡ of_int binary64 (in_quarter q r)
  unfolding in_quarter
  fourth e zero n0 n1 n2 v = absurd (n0 refl)
  fourth e (suc zero) n0 n1 n2 v = absurd (n1 refl)
  fourth e (suc (suc zero)) n0 n1 n2 v = absurd (n2 refl)
  fourth e (suc (suc (suc q))) n0 n1 n2 v = v ∙ rw e
