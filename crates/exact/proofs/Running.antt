-- How far a running sum drifts from the exact one: n steps of x := x + t, and of t := t + d; x := x + t. Assumes nothing.
use mathlib.Core.Path.{◌≡◌}
use Prim.Native.Nat.{ℕ, zero, suc, ◌+◌, ◌*◌, ◌/◌, ◌^◌, ◌≤◌, ◌<◌}
use native.Mathlib.Nat.{le_refl, le_step, mul-le-mul_right}
use native.Mathlib.Omega.{arith}
use lib.Ieee.{Float, Format, emax, low}
use Rattle.exact.specs.Whole.{Whole, ◌⊕◌, ◌⊙◌, Below, Within, Room}
use Rattle.exact.specs.Exact.{exact, Number}
use Rattle.exact.specs.Rounding.{slack}
use Rattle.exact.specs.Running.{run, walk, tri}
use Rattle.exact.proofs.Whole.{room_between}
use Rattle.exact.proofs.Sums.{bound_of, add_is, add_near}

pub tri_is : (n : ℕ) → 2 * tri n ≡ n * (n + 1)
unfolding tri
tri_is zero = omega arith
tri_is (suc n) = omega (arith, tri_is n)

-- for a reader of `tri`; the laws use it doubled
pub tri_half : (n : ℕ) → tri n ≡ n * (n + 1) / 2
tri_half n = omega (arith, tri_is n)

-- ---- x := x + t
run_step : (n e : ℕ) (u x t r : Whole) → Within (n * e) u (x ⊕ n ⊙ t) → Within e r (u ⊕ t) → Within (suc n * e) r (x ⊕ suc n ⊙ t)
run_step n e u x t r h k = omega arith

-- each exact sum on the way is below 2 ^ k; to show that, the drift up to there may be used
pub run_near : (f : Format) (k n : ℕ) (x t : Float) → Number f x → Number f t → k ≤ emax f
    → ((j : ℕ) → j < n → Within (j * slack f k) (exact f (run f j x t)) (exact f x ⊕ j ⊙ exact f t) → Below (2 ^ (k + low f)) (exact f (run f j x t) ⊕ exact f t))
    → Number f (run f n x t) × Within (n * slack f k) (exact f (run f n x t)) (exact f x ⊕ n ⊙ exact f t)
unfolding run
run_near f k zero x t p q l h = (p, omega arith)
run_near f k (suc n) x t p q l h =
    let b = run_near f k n x t p q l (λ j i. h j (le_step i)) in
    let r = add_near f k (run f n x t) t b.0 q l (h n (le_refl (suc n)) b.1) in
    (r.0, run_step n (slack f k) (exact f (run f n x t)) (exact f x) (exact f t) (exact f (run f (suc n) x t)) b.1 r.1)

-- where the exact line stays below 2 ^ k, with room for the drift, at its two ends
inside : (b e j n : ℕ) (u x t : Whole) → j < n → Within (j * e) u (x ⊕ j ⊙ t) → Room b (n * e) (x ⊕ suc j ⊙ t) → Below b (u ⊕ t)
inside b e j n u x t l h k = omega (arith, mul-le-mul_right e l)

pub run_drift : (f : Format) (k n : ℕ) (x t : Float) → Number f x → Number f t → k ≤ emax f
    → Room (2 ^ (k + low f)) (n * slack f k) (exact f x) → Room (2 ^ (k + low f)) (n * slack f k) (exact f x ⊕ n ⊙ exact f t)
    → Number f (run f n x t) × Within (n * slack f k) (exact f (run f n x t)) (exact f x ⊕ n ⊙ exact f t)
run_drift f k n x t p q l h i =
    run_near f k n x t p q l
    (λ j z w. inside (2 ^ (k + low f)) (slack f k) j n (exact f (run f j x t)) (exact f x) (exact f t) z w
    (room_between (2 ^ (k + low f)) (n * slack f k) (suc j) n (exact f x) (exact f t) z h i))

-- ---- t := t + d; x := x + t
-- with steps t that are each at most j * g away from the exact ones, where each x on the way is known to be below 2 ^ k; g is the slack of the steps, or 0 where nothing is rounded on them
walk_step : (n c e g : ℕ) (u v x t d r : Whole) → Within (n * e + c * g) u (x ⊕ n ⊙ t ⊕ c ⊙ d) → Within (suc n * g) v (t ⊕ suc n ⊙ d) → Within e r (u ⊕ v)
    → Within (suc n * e + (c + suc n) * g) r (x ⊕ suc n ⊙ t ⊕ (c + suc n) ⊙ d)
walk_step n c e g u v x t d r h i k = omega arith

pub walk_within : (f : Format) (k g n : ℕ) (x t d : Float) → k ≤ emax f
    → ((j : ℕ) → j ≤ n → Number f (run f j t d) × Within (j * g) (exact f (run f j t d)) (exact f t ⊕ j ⊙ exact f d))
    → ((j : ℕ) → j ≤ n → Number f (walk f j x t d) × Below (2 ^ (k + low f)) (exact f (walk f j x t d)))
    → Within (n * slack f k + tri n * g) (exact f (walk f n x t d)) (exact f x ⊕ n ⊙ exact f t ⊕ tri n ⊙ exact f d)
unfolding walk tri
walk_within f k g zero x t d l s h = omega arith
walk_within f k g (suc n) x t d l s h =
    let b = walk_within f k g n x t d l (λ j z. s j (le_step z)) (λ j z. h j (le_step z)) in
    let u = walk f n x t d in
    let v = run f (suc n) t d in
    let p = h n (le_step (le_refl n)) in
    let q = s (suc n) (le_refl (suc n)) in
    let y = h (suc n) (le_refl (suc n)) in
    let w = add_near f k u v p.0 q.0 l (bound_of f (k + low f) (walk f (suc n) x t d) (exact f u ⊕ exact f v) (add_is f u v p.0 q.0) y.0.0 y.1) in
    walk_step n (tri n) (slack f k) g (exact f u) (exact f v) (exact f x) (exact f t) (exact f d) (exact f (walk f (suc n) x t d)) b q.1 w.1
