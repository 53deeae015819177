-- The steps of a block: 1/r of a ratio in use, the stored steps, the ramp increment, and each step on the way. In units of 2 ^ -1074. Assumes nothing.
use mathlib.Core.Bool.{Bool, true, false, cond}
use mathlib.Core.Path.{◌≡◌, sym, subst}
use Prim.Native.Nat.{ℕ, ◌+◌, ◌*◌, ◌^◌, ◌≤◌, ◌<◌}
use native.Mathlib.Nat.{le_trans, zero-mul, mul-pos, le_of_mul-le-mul_left, mul-le-mul_right}
use native.Mathlib.Omega.{arith}
use lib.Dec.{T, lit≤, eqb, eqb→eq}
use lib.IntN.{ℤ}
use lib.Ieee.{Float, inf, fin, binary64, up, down, round, div, of_bits}
use lib.Ieee.Fits.{down_pos}
use lib.Pow.{pow_pos}
use Rattle.exact.specs.Doubles.{◌-f◌, ◌/f◌, count, one_f}
use Rattle.exact.specs.Whole.{Whole, ◌⊕◌, ◌⊖◌, ◌⊙◌, ◌⊗◌, AtMost, Below, Within, Room}
use Rattle.exact.specs.Exact.{mag, exact, Number}
use Rattle.exact.specs.Rounding.{slack}
use Rattle.exact.specs.Running.{run}
use Rattle.exact.proofs.Whole.{room_between}
use Rattle.exact.proofs.Rounding.{round_near}
use Rattle.exact.proofs.Sums.{sub_near}
use Rattle.exact.proofs.Products.{div_near}
use Rattle.exact.proofs.Running.{run_drift}
use Rattle.sizes.specs.Bounds.{is_ratio}
use Rattle.state.specs.declared.State.{State}
use Rattle.steps.specs.Steps.{step_of}
use Rattle.state.specs.Record.{step_now_of, step_then_of, is_state}
use Rattle.state.proofs.Valid.{valid}
use Rattle.position.proofs.Amounts.{count_exact, mag_is, mag_below}
use Rattle.position.proofs.Tests.{holds, ratio_of}

-- ---- the step of a ratio is a number from 1/512 to 257, which leaves room for the rounding of 1/r
-- the laws are over h, which is 2 ^ -46: one is 2 ^ 46 * h, and the slack of numbers below 2 ^ 9 is 2 * h
pub record Pace (h : ℕ) (t : Whole) : Type 0 where
  pub some : 0 < h
  pub least : AtMost (2 ^ 37 * h, 0) t
  pub most : AtMost t (257 * (2 ^ 46 * h), 0)

pub record Step (t : Float) : Type 0 where
  pub number : Number binary64 t
  pub pace : Pace (2 ^ 1028) (exact binary64 t)

-- the ratio is D / C, and t its step
quotient_below : (C D : ℕ) → 0 < C → C ≤ 256 * D → (0 < D * 1) × (1 * 1 * C < 2 ^ 9 * (D * 1))
quotient_below C D p l = omega arith

quotient_pace : (h C D : ℕ) (t : Whole) → 0 < h → 0 < D * 1 → C ≤ 256 * D → D ≤ 256 * C → Within (D * 1 * (2 * h)) (D * 1 ⊙ t) (1 * 1 * C * (2 ^ 46 * h), 0) → Pace h t
quotient_pace h C D t p P l m w =
    let P' : 0 < D = omega arith in
    let a : D * t.0 ≤ D * (256 * (2 ^ 46 * h) + t.1 + 2 * h) = omega (arith, mul-le-mul_right h l) in
    let b : D * (2 ^ 46 * h + 256 * t.1) ≤ D * (256 * t.0 + 256 * (2 * h)) = omega (arith, mul-le-mul_right h m) in
    record { some = p; least = omega (arith, le_of_mul-le-mul_left b P'); most = omega (arith, le_of_mul-le-mul_left a P') }

fraction_step : (m : ℕ) (e : ℤ) → down e ≤ 256 * (m * up e) → m * up e ≤ 256 * down e → Step (one_f /f fin false m e)
unfolding div of_bits
fraction_step m e l k = go (eqb m 0) (eqb→eq m 0)
  where
    go : (o : Bool) → (T o → m ≡ 0) → Step (cond o (inf false) (round binary64 false (1 * 1 * down e) (m * up e * 1)))
    go true u = let z = rw (u tt, zero-mul) at l in absurd (omega (arith, down_pos e))
    go false u =
        let b = quotient_below (down e) (m * up e) (down_pos e) l in
        let r = round_near binary64 false (1 * 1 * down e) (m * up e * 1) 9 b.0 b.1 (lit≤ tt) in
        record { number = r.0; pace = quotient_pace (2 ^ 1028) (down e) (m * up e) _ (pow_pos 1028) b.0 l k r.1 }

step_of_lem : (r : Float) → T (is_ratio r) → Step (step_of r)
step_of_lem r h =
    let q = ratio_of r h in
    subst (λ (z : Float). Step (one_f /f z)) (sym q.is) (fraction_step q.digits q.exponent q.least q.most)

-- the stored steps of a record that passes the StateRecord test are those of its ratios
pub step_now : (s : State) → is_state s ≡ true → Step (step_now_of s)
step_now s h = let v = valid s h in subst Step (sym v.step_now_is) (step_of_lem s.current (holds v.current_ratio))

pub step_then : (s : State) → is_state s ≡ true → Step (step_then_of s)
step_then s h = let v = valid s h in subst Step (sym v.step_then_is) (step_of_lem s.target (holds v.target_ratio))

-- ---- u - t, rounded once
apart : (h : ℕ) (t u : Whole) → Pace h t → Pace h u → Below (2 ^ 9 * (2 ^ 46 * h)) (u ⊖ t)
apart h t u a b = omega arith

apart_near : (h : ℕ) (t u x : Whole) → Pace h t → Pace h u → Within (2 * h) x (u ⊖ t) → Below (2 ^ 9 * (2 ^ 46 * h)) x
apart_near h t u x a b w = omega arith

pub difference : (t u : Float) → Step t → Step u
    → Number binary64 (u -f t) × Within (2 ^ 1029) (exact binary64 (u -f t)) (exact binary64 u ⊖ exact binary64 t) × Below (2 ^ 1083) (exact binary64 (u -f t))
difference t u a b =
    let v = exact binary64 t in
    let w = exact binary64 u in
    let x = sub_near binary64 9 u t b.number a.number (lit≤ tt) (apart (2 ^ 1028) v w a.pace b.pace) in
    (x.0, x.1, apart_near (2 ^ 1028) v w (exact binary64 (u -f t)) a.pace b.pace x.1)

-- ---- the ramp increment d = (u - t)/n: t + n*d is at most n + 1 slacks away from u
wide : (U n m : ℕ) → 0 < n → m < 2 ^ 9 * U → m < 2 ^ 9 * (n * U)
wide U n m p h = omega (arith, mul-le-mul_right U p)

shared : (U S n : ℕ) (x d : Whole) → 0 < U → Within (n * U * S) ((n * U, 0) ⊗ d) (U ⊙ x) → Within (n * S) (n ⊙ d) x
shared U S n x d P w =
    let a : U * (n * d.0 + x.1) ≤ U * (x.0 + n * d.1 + n * S) = omega arith in
    let b : U * (x.0 + n * d.1) ≤ U * (n * d.0 + x.1 + n * S) = omega arith in
    omega (arith, le_of_mul-le-mul_left a P, le_of_mul-le-mul_left b P)

arrives : (n S : ℕ) (t u x d : Whole) → Within S x (u ⊖ t) → Within (n * S) (n ⊙ d) x → Within (n * S + S) (t ⊕ n ⊙ d) u
arrives n S t u x d v w = omega arith

room_first : (h j : ℕ) (t : Whole) → Pace h t → j ≤ 65536 → Room (2 ^ 9 * (2 ^ 46 * h)) (j * (2 * h)) t
room_first h j t a l = omega (arith, mul-le-mul_right h l)

room_last : (h j n : ℕ) (x u : Whole) → Pace h u → j ≤ n → n ≤ 65536 → Within (n * (2 * h) + 2 * h) x u → Room (2 ^ 9 * (2 ^ 46 * h)) (j * (2 * h)) x
room_last h j n x u b k l w = omega (arith, mul-le-mul_right h k, mul-le-mul_right h l)

module _ (t u : Float) (a : Step t) (b : Step u) (n : ℕ) (p : 0 < n) (l : n ≤ 65536) where
  pub increment_near : let d = (u -f t) /f count n in Number binary64 d × Within (n * 2 ^ 1029 + 2 ^ 1029) (exact binary64 t ⊕ n ⊙ exact binary64 d) (exact binary64 u)
  increment_near =
      let x = difference t u a b in
      let X = exact binary64 (u -f t) in
      let q = exact binary64 ((u -f t) /f count n) in
      let k : n ≤ 2 ^ 53 = le_trans l (lit≤ tt) in
      let c = count_exact n k in
      let e = mag_is (n * 2 ^ 1074) (count n) c.0 (mul-pos p (pow_pos 1074)) c.1 in
      let d = div_near binary64 9 (u -f t) (count n) x.0 c.0 (lit≤ tt) (subst (λ (m : ℕ). 0 < m) (sym e) (mul-pos p (pow_pos 1074)))
      (subst (λ (m : ℕ). mag binary64 (u -f t) < 2 ^ 9 * m) (sym e) (wide (2 ^ 1074) n (mag binary64 (u -f t)) p (mag_below (2 ^ 1083) (u -f t) x.0 x.2))) in
      let w = subst (λ (m : ℕ). Within (m * slack binary64 9) (exact binary64 (count n) ⊗ q) (2 ^ 1074 ⊙ X)) e d.1 in
      let w' = subst (λ (v : Whole). Within (n * 2 ^ 1074 * slack binary64 9) (v ⊗ q) (2 ^ 1074 ⊙ X)) c.1 w in
      (d.0, arrives n (2 ^ 1029) (exact binary64 t) (exact binary64 u) X q x.1 (shared (2 ^ 1074) (2 ^ 1029) n X q (pow_pos 1074) w'))

  -- each step on the way: the j-th is at most j slacks away from t + j*d
  pub steps_near : (j : ℕ) → j ≤ n → let d = (u -f t) /f count n in
      Number binary64 (run binary64 j t d) × Within (j * 2 ^ 1029) (exact binary64 (run binary64 j t d)) (exact binary64 t ⊕ j ⊙ exact binary64 d)
  steps_near j k =
      let d = (u -f t) /f count n in
      let v = exact binary64 t in
      let w = exact binary64 d in
      let i = increment_near in
      let f = room_first (2 ^ 1028) j v a.pace (le_trans k l) in
      let e = room_last (2 ^ 1028) j n (v ⊕ n ⊙ w) (exact binary64 u) b.pace k l i.1 in
      run_drift binary64 9 j t d a.number i.0 (lit≤ tt) f (room_between (2 ^ 1083) (j * 2 ^ 1029) j n v w k f e)
