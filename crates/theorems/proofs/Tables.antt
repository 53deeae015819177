-- src/sinc.rs: "sincs[factor - n - 1][p] = y[factor * p + n] / sum", and the sine is asked for few steps. Assumes nothing.
use mathlib.Core.Bool.{true, ◌&&◌}
use mathlib.Core.Path.{◌≡◌, refl, ap, ◌∙◌}
use Prim.Native.Nat.{ℕ, ◌+◌, ◌-◌, ◌*◌, ◌/◌, ◌%◌, ◌≤◌, ◌<◌}
use native.Mathlib.Nat.{add-zero, mul-add-div_right, mul-add-mod_self_right, div-eq_of_lt, mod-eq_of_lt, mul_comm, mul-le-mul_right}
use native.Mathlib.Omega.{arith}
use lib.Dec.{T}
use lib.Ieee.{Float, nan, binary64, fits}
use lib.ListN.{get_or}
use Rattle.exact.specs.Doubles.{◌/f◌}
use Rattle.whole.specs.Small.{small}
use Rattle.windows.specs.declared.WindowFunction.{WindowFunction}
use Rattle.window_points.proofs.Fills.{listed_at}
use Rattle.sincs.specs.Sinc.{steps_of, place_of, value_at}
use Rattle.sincs.specs.Table.{sum_of, value_no, entry_at, sincs_table, product_holds, cutoff_holds}
use Rattle.sincs.proofs.Bounds.{tests, cutoff_sized, steps_small}

module _ (points factor : ℕ) (cutoff : Float) (w : WindowFunction) where
  -- row factor-n-1, place p is value factor*p + n over the sum
  pub table_entry : (n p : ℕ) → n < factor → p < points → get_or (sincs_table points factor cutoff w) ((factor - n - 1) * points + p) nan ≡ value_at points factor cutoff w (factor * p + n) /f sum_of points factor cutoff w
  table_entry n p h k =
      let r = factor - n - 1 in
      let row : (r * points + p) / points ≡ r = mul-add-div_right {m = points} (omega arith) r p ∙ ap (λ (x : ℕ). r + x) (div-eq_of_lt k) ∙ add-zero r in
      let place : (r * points + p) % points ≡ p = mul-add-mod_self_right r points p ∙ mod-eq_of_lt k in
      let no : value_no points factor (r * points + p) ≡ factor * p + n = rw (row, place) (omega arith) in
      listed_at (entry_at points factor cutoff w) (points * factor) (r * points + p) nan (inside r refl) ∙ ap (λ (x : ℕ). value_at points factor cutoff w x /f sum_of points factor cutoff w) no
    where
      inside : (r : ℕ) → r ≡ factor - n - 1 → (factor - n - 1) * points + p < points * factor
      inside r e =
          let l : r + 1 ≤ factor = omega arith in
          omega (arith, mul-le-mul_right points l, mul_comm points factor, ap (λ (x : ℕ). x * points) e)

  -- of an accepted table every sine is of less than 2 ^ 52 steps
  pub sines_small : T (fits binary64 cutoff) → (product_holds points factor && cutoff_holds cutoff) ≡ true → (x : ℕ) → x < points * factor → small (steps_of (place_of (points * factor) factor cutoff x)) ≡ true
  sines_small f h x l =
      let t = tests points factor cutoff h in
      steps_small (points * factor) factor x cutoff t.0.most l t.0.factor_some t.0.factor_most (cutoff_sized cutoff f t.1)
