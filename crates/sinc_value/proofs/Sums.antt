-- The sum of the products, place by place. Assumes nothing.
use mathlib.Core.List.{List}
use mathlib.Core.Path.{◌≡◌, ap, refl, ◌∙◌}
use Prim.Native.Nat.{ℕ, zero, suc, ◌+◌, ◌-◌, ◌≤◌}
use native.Mathlib.Omega.{arith}
use lib.Ieee.{Float}
use Rattle.exact.specs.Doubles.{◌+f◌, ◌*f◌}
use Rattle.exact.specs.Samples.{sample}
use Rattle.sinc_value.specs.Values.{sum_to}

module _ (wave row : List Float) where
  -- the sum of the places below k
  abbrev pub Summed : ℕ → Float → Type 0
  Summed k sum = (1 ≤ k) × (sum ≡ sum_to wave row (k - 1))

  pub sum_first : Summed 1 (sample wave 0 *f sample row 0)
  unfolding sum_to
  sum_first = (omega arith, refl)

  pub sum_next : (k : ℕ) (sum : Float) → Summed k sum → Summed (k + 1) (sum +f sample wave k *f sample row k)
  unfolding sum_to
  sum_next zero sum h = absurd (omega (arith, h.0))
  sum_next (suc k) sum h =
      let a : suc k - 1 ≡ k = omega arith in
      let b : suc k ≡ suc k + 1 - 1 = omega arith in
      (omega arith, ap (λ (y : Float). y +f sample wave (suc k) *f sample row (suc k)) (h.1 ∙ ap (sum_to wave row) a) ∙ ap (sum_to wave row) b)

  pub sum_done : (n k : ℕ) (sum : Float) → n ≤ k → k ≤ n → Summed k sum → sum ≡ sum_to wave row (n - 1)
  sum_done n k sum l m h =
      let e : k ≡ n = omega arith in
      h.1 ∙ ap (λ (j : ℕ). sum_to wave row (j - 1)) e
