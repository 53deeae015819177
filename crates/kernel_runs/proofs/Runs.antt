-- A run of one kernel: what holds after k places, one law over the degree. Assumes nothing.
use mathlib.Core.List.{List}
use mathlib.Core.Logic.{⊎_elim}
use mathlib.Core.Path.{◌≡◌, refl, sym, ap, ◌∙◌, subst}
use Prim.Native.Nat.{ℕ, zero, suc, ◌+◌, ◌-◌, ◌≤◌, ◌<◌}
use native.Mathlib.Nat.{eq-or-lt_of_le, le_of_suc-le-suc}
use native.Mathlib.Numerals.{add-one}
use native.Mathlib.Omega.{arith}
use lib.Ieee.{Float, nan}
use lib.ListN.{length, get_or, take, drop, set, length-set, length-append}
use lib.Seq.{take-suc-set, take-length}
use Rattle.asynchro_fast.specs.declared.PolynomialDegree.{PolynomialDegree}
use Rattle.asynchro_fast.specs.Degrees.{points_of}
use Rattle.asynchro_fast.specs.Kernels.{interp_of}
use Rattle.kernel_runs.specs.Runs.{kernel_on, run_to, FitTo, Runs}

pub kernel_on_lem : (degree : PolynomialDegree) (work : List Float) (s : ℕ) (x : Float) (l : ℕ) (r : Float) → l ≡ points_of degree → r ≡ interp_of degree x (take (s + l - s) (drop s work)) → r ≡ kernel_on degree work s x
unfolding kernel_on
kernel_on_lem degree work s x l r u h =
    let k : s + l - s ≡ points_of degree = omega arith in
    rw k at h

pub record Run (degree : PolynomialDegree) (work : List Float) (places : List ℕ) (fracs out₀ out : List Float) (k : ℕ) : Type 0 where
  pub long : length out ≡ length out₀
  pub is : take k out ≡ run_to degree work places fracs k

module _ (degree : PolynomialDegree) (work : List Float) (places : List ℕ) (fracs out₀ : List Float) where
  pub run_long : (k : ℕ) → length (run_to degree work places fracs k) ≡ k
  unfolding run_to
  run_long zero = refl
  run_long (suc k) = simp (length-append, run_long k, add-one)

  pub run_none : Run degree work places fracs out₀ out₀ 0
  unfolding run_to
  run_none = record { long = refl; is = refl }

  pub run_next : (out : List Float) (k : ℕ) (v : Float) → Run degree work places fracs out₀ out k → k < length out₀ → v ≡ kernel_on degree work (get_or places k 0) (get_or fracs k nan) → Run degree work places fracs out₀ (set out k v) (k + 1)
  unfolding run_to
  run_next out k v r h e =
      record {
        long = length-set out k v ∙ r.long;
        is = rw (add-one, ← e, ← r.is) (take-suc-set out k v (rw r.long h));
      }

  pub run_done : (out : List Float) (k : ℕ) → Run degree work places fracs out₀ out k → k ≡ length out₀ → out ≡ run_to degree work places fracs (length out₀)
  run_done out k r e = sym (take-length out) ∙ ap (λ (n : ℕ). take n out) (r.long ∙ sym e) ∙ r.is ∙ ap (run_to degree work places fracs) e

-- each place fits
fit_at : (degree : PolynomialDegree) (m : ℕ) (places : List ℕ) (n k : ℕ) → FitTo degree m places n → k < n → get_or places k 0 + points_of degree ≤ m
unfolding FitTo
fit_at degree m places zero k h l = absurd (omega arith)
fit_at degree m places (suc n) k h l = ⊎_elim (λ (e : k ≡ n). rw e h.1) (λ (e : k < n). fit_at degree m places n k h.0 e) (eq-or-lt_of_le (le_of_suc-le-suc l))

-- what a frame asks
pub run_asks : (degree : PolynomialDegree) (work : List Float) (places : List ℕ) (fracs out : List Float) (k : ℕ) → Runs degree work places fracs out → k < length out
    → ((k < length places) × (k < length fracs)) × (get_or places k 0 + points_of degree ≤ length work)
run_asks degree work places fracs out k r l = ((omega (arith, r.placed), omega (arith, r.parted)), fit_at degree (length work) places (length out) k r.fit l)
