-- Laws for Kept.antt: in an accepted block no step is negative, a rounded sum keeps the order of the exact ones, and so the index never falls from one frame to the next. Assumes nothing.
use mathlib.Core.Bool.{Bool, true, false}
use mathlib.Core.Path.{◌≡◌, refl, sym, ap, ◌∙◌, subst}
use Prim.Native.Nat.{ℕ, zero, suc, ◌+◌, ◌*◌, ◌^◌, ◌≤◌, ◌<◌}
use native.Mathlib.Nat.{lt_of_le_of_lt, le_refl, le_dest, le_trans, mul-le-mul_right}
use native.Mathlib.Omega.{arith}
use lib.Dec.{T, lit≤}
use lib.Ieee.{Float, binary64, size, round}
use lib.Ieee.Order.{round_mono}
use lib.Ieee.Scale.{finite, grid}
use lib.Pow.{pow-add, pow_pos}
use Rattle.exact.specs.Doubles.{◌+f◌, ◌-f◌, ◌/f◌, count, zero_f}
use Rattle.exact.specs.Whole.{Whole, signed, ◌⊕◌, ◌⊖◌, ◌⊙◌, Same, AtMost, Below, Within, Room}
use Rattle.exact.specs.Exact.{exact, Number}
use Rattle.exact.specs.Rounding.{RoundOf}
use Rattle.exact.specs.Running.{run}
use Rattle.exact.proofs.Whole.{room_between}
use Rattle.exact.proofs.Rounding.{round_near, round_finite}
use Rattle.exact.proofs.Order.{le_exact}
use Rattle.exact.proofs.Sums.{bound_of, add_is}
use Rattle.state.specs.declared.State.{State}
use Rattle.state.specs.Record.{step_now_of, step_then_of, is_state}
use Rattle.state.proofs.Valid.{valid}
use Rattle.path.specs.Path.{path_at}
use Rattle.plan.specs.Plan.{increment_of, reach_holds}
use Rattle.plan.proofs.Planned.{increment_some}
use Rattle.cut.proofs.Frames.{index_inside}
use Rattle.position.proofs.Amounts.{zero_exact}
use Rattle.position.proofs.Steps.{Pace, Step, step_now, step_then, increment_near, steps_near}
use Rattle.position.proofs.Flat.{add-zero}
use Rattle.position.proofs.Path.{path_step}
use Rattle.theorems.specs.Block.{index_at}

-- ---- of two exact values below 2 ^ 17 the larger rounds to one that is no smaller, whatever their signs
grid_rises : (a b : ℕ) → a ≤ b → b < 2 ^ 1091 → grid binary64 a (2 ^ 1074) ≤ grid binary64 b (2 ^ 1074)
grid_rises a b h l =
    let P = pow_pos 1074 in
    let l' : b < 2 ^ 17 * 2 ^ 1074 = subst (λ (z : ℕ). b < z) (pow-add 2 17 1074) l in
    let p = (round_near binary64 false a (2 ^ 1074) 17 P (lt_of_le_of_lt h l') (lit≤ tt)).0 in
    let q = (round_near binary64 false b (2 ^ 1074) 17 P l' (lit≤ tt)).0 in
    let r = (le_exact binary64 (round binary64 false a (2 ^ 1074)) (round binary64 false b (2 ^ 1074)) p q).0
    (round_mono binary64 a (2 ^ 1074) b (2 ^ 1074) P P (mul-le-mul_right (2 ^ 1074) h)) in
    plain _ _ _ _ (round_finite binary64 false a (2 ^ 1074) p.0) (round_finite binary64 false b (2 ^ 1074) q.0) r
  where
    plain : (v w : Whole) (g k : ℕ) → v ≡ (g, 0) → w ≡ (k, 0) → AtMost v w → g ≤ k
    plain v w g k e d h = omega (arith, ap (λ (z : Whole). z.0) e, ap (λ (z : Whole). z.1) e, ap (λ (z : Whole). z.0) d, ap (λ (z : Whole). z.1) d)

-- g and k are the sizes rounded
ordered : (s t : Bool) (a b g k B : ℕ) (v w : Whole) → (a ≤ b → b < B → g ≤ k) → (b ≤ a → a < B → k ≤ g) → ((a ≡ 0) × (b ≡ 0) → (g ≡ 0) × (k ≡ 0))
    → Same (signed s a) v → Same (signed t b) w → Below B v → Below B w → AtMost v w → AtMost (signed s g) (signed t k)
ordered false false a b g k B v w u d z p q x y h = omega (arith, u (omega arith) (omega arith))
ordered true true a b g k B v w u d z p q x y h = omega (arith, d (omega arith) (omega arith))
ordered true false a b g k B v w u d z p q x y h = omega arith
ordered false true a b g k B v w u d z p q x y h = let n = z (omega arith, omega arith) in omega (arith, n.0, n.1)

grid_none : (a : ℕ) → a ≡ 0 → grid binary64 a (2 ^ 1074) ≡ 0
unfolding size
grid_none a e = rw e refl

pub round_rises : (x y : Float) (v w : Whole) → RoundOf binary64 x v → RoundOf binary64 y w → T (finite x) → T (finite y) → Below (2 ^ 1091) v → Below (2 ^ 1091) w → AtMost v w
    → AtMost (exact binary64 x) (exact binary64 y)
round_rises x y v w (s, a, e, p) (t, b, d, q) m n k l h =
    subst (λ (z : Whole). AtMost z (exact binary64 y)) (sym (ap (exact binary64) e ∙ round_finite binary64 s a (2 ^ 1074) (subst (λ (z : Float). T (finite z)) e m)))
    (subst (AtMost (signed s (grid binary64 a (2 ^ 1074)))) (sym (ap (exact binary64) d ∙ round_finite binary64 t b (2 ^ 1074) (subst (λ (z : Float). T (finite z)) d n)))
    (ordered s t a b (grid binary64 a (2 ^ 1074)) (grid binary64 b (2 ^ 1074)) (2 ^ 1091) v w (grid_rises a b) (grid_rises b a) (λ z. (grid_none a z.0, grid_none b z.1)) p q k l h))

-- ---- x plus a number that is not negative is at least x
no_less : (x z t : Whole) → z ≡ (0, 0) → AtMost (0, 0) t → AtMost (x ⊕ z) (x ⊕ t)
no_less x z t e h = rw e (omega arith)

unmoved : (B : ℕ) (x z : Whole) → z ≡ (0, 0) → Below B x → Below B (x ⊕ z)
unmoved B x z e h = rw e (omega arith)

from_same : (v w y : Whole) → Same v w → AtMost v y → AtMost w y
from_same v w y e h = omega arith

none : (z : Whole) → z ≡ (0, 0) → Same z (0, 0)
none z e = rw e refl

pub add_rises : (x t : Float) → Number binary64 x → Number binary64 t → Below (2 ^ 1091) (exact binary64 x) → T (finite (x +f t)) → Below (2 ^ 1091) (exact binary64 (x +f t))
    → AtMost (0, 0) (exact binary64 t) → AtMost (exact binary64 x) (exact binary64 (x +f t))
add_rises x t p q l n k h =
    let v = exact binary64 x in
    let o = exact binary64 zero_f in
    let z = add-zero x zero_f p zero_exact.0 (none o zero_exact.1) l in
    let r = add_is binary64 x t p q in
    from_same (exact binary64 (x +f zero_f)) v (exact binary64 (x +f t)) z.1
    (round_rises (x +f zero_f) (x +f t) (v ⊕ o) (v ⊕ exact binary64 t) (add_is binary64 x zero_f p zero_exact.0) r z.0.0 n
    (unmoved (2 ^ 1091) v o zero_exact.1 l) (bound_of binary64 1091 (x +f t) (v ⊕ exact binary64 t) r n k) (no_less v o (exact binary64 t) zero_exact.1 h))

-- ---- no step of a ramp is negative: the two steps at its ends are at least 1/512, and what is rounded on the way is far less
-- over h, which is 2 ^ -46; the middle c is so large that both ends lie less than c away from it
abbrev middle : ℕ → ℕ
middle h = 2 ^ 9 * (2 ^ 46 * h)

up_first : (h j : ℕ) (t : Whole) → Pace h t → j ≤ 65536 → Room (middle h) (j * (2 * h)) (t ⊖ (middle h, 0))
up_first h j t a l = omega (arith, mul-le-mul_right h l)

up_last : (h j n : ℕ) (t d u : Whole) → Pace h u → j ≤ n → n ≤ 65536 → Within (n * (2 * h) + 2 * h) (t ⊕ n ⊙ d) u → Room (middle h) (j * (2 * h)) (t ⊖ (middle h, 0) ⊕ n ⊙ d)
up_last h j n t d u b k l w = omega (arith, mul-le-mul_right h k, mul-le-mul_right h l)

up_between : (h j : ℕ) (t d r : Whole) → Room (middle h) (j * (2 * h)) (t ⊖ (middle h, 0) ⊕ j ⊙ d) → Within (j * (2 * h)) r (t ⊕ j ⊙ d) → AtMost (0, 0) r
up_between h j t d r m w = omega arith

step_up : (t u : Float) (a : Step t) (b : Step u) (n : ℕ) → 0 < n → n ≤ 65536 → (j : ℕ) → j ≤ n
    → let r = run binary64 j t ((u -f t) /f count n) in Number binary64 r × AtMost (0, 0) (exact binary64 r)
step_up t u a b n p l j k =
    let h = 2 ^ 1028 in
    let v = exact binary64 t in
    let d = exact binary64 ((u -f t) /f count n) in
    let r = steps_near t u a b n p l j k in
    let m = room_between (middle h) (j * (2 * h)) j n (v ⊖ (middle h, 0)) d k (up_first h j v a.pace (le_trans k l))
    (up_last h j n v d (exact binary64 u) b.pace k l (increment_near t u a b n p l).1) in
    (r.0, up_between h j v d (exact binary64 (run binary64 j t ((u -f t) /f count n))) m r.1)

-- ---- the index never falls
module _ (s : State) (a : is_state s ≡ true) (b : reach_holds s ≡ true) where
  index_held : (k : ℕ) → k < s.output → Number binary64 (index_at s k) × Below (2 ^ 1091) (exact binary64 (index_at s k))
  index_held k l = index_inside s a b k l (index_at s k) refl

  step_held : (j : ℕ) → j ≤ s.output → 0 < s.output → (x : Float) → x ≡ (path_at (step_now_of s) (increment_of s) s.index j).step → Number binary64 x × AtMost (0, 0) (exact binary64 x)
  step_held j l p x e =
      let v = valid s a in
      let r = step_up (step_now_of s) (step_then_of s) (step_now s a) (step_then s a) s.output p v.output_few j l in
      let i = increment_some s (step_now_of s) (step_then_of s) (count s.output) (λ z. omega arith) refl refl refl in
      subst (λ (y : Float). Number binary64 y × AtMost (0, 0) (exact binary64 y))
      (ap (run binary64 j (step_now_of s)) i ∙ sym (path_step (step_now_of s) (increment_of s) s.index j) ∙ sym e) r

  pub index_rises : (k : ℕ) → suc k < s.output → AtMost (exact binary64 (index_at s k)) (exact binary64 (index_at s (suc k)))
  unfolding path_at
  index_rises k l =
      let t = (path_at (step_now_of s) (increment_of s) s.index (suc (suc k))).step in
      let x = index_held k (omega arith) in
      let y = index_held (suc k) l in
      let r = step_held (suc (suc k)) l (omega arith) t refl in
      add_rises (index_at s k) t x.0 r.0 x.1 y.0.0 y.1 r.1

  -- from a frame to any later one
  abbrev Rises : ℕ → ℕ → Type 0
  Rises k m = AtMost (exact binary64 (index_at s k)) (exact binary64 (index_at s m))

  rises_by : (j k m : ℕ) → k + j ≡ m → m < s.output → Rises k m
  rises_by zero k m e l = subst (Rises k) {x = k} {y = m} (omega arith) (le_refl _)
  rises_by (suc j) k m e l =
      let i : suc (k + j) ≡ m = omega arith in
      subst (Rises k) i (further (exact binary64 (index_at s k)) (exact binary64 (index_at s (k + j))) (exact binary64 (index_at s (suc (k + j)))) (rises_by j k (k + j) refl (omega arith)) (index_rises (k + j) (omega arith)))
    where
      further : (u v w : Whole) → AtMost u v → AtMost v w → AtMost u w
      further u v w h k = omega arith

  pub path_rises : (k m : ℕ) → k ≤ m → m < s.output → AtMost (exact binary64 (index_at s k)) (exact binary64 (index_at s m))
  path_rises k m h l = rises_by (le_dest h).0 k m (le_dest h).1 l
