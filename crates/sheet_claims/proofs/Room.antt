-- How large the figures of a live line are in fewer than 2 ^ 46 blocks: what proofs/GoesOn.antt needs so that the line goes on. In units of 2 ^ -1074. Assumes nothing.
use mathlib.Core.Bool.{true}
use mathlib.Core.Path.{◌≡◌, refl, subst}
use Prim.Native.Nat.{ℕ, ◌+◌, ◌*◌, ◌^◌, ◌≤◌, ◌<◌}
use native.Mathlib.Nat.{le_of_lt, lt_of_mul-lt-mul_right, mul-le-mul, mul-le-mul_left, mul-le-mul_right}
use native.Mathlib.Omega.{arith}
use borrow.Author.Tests.{lt-ltb, le-leb}
use lib.Dec.{lit≤}
use lib.Ieee.{binary64}
use lib.Pow.{pow_pos}
use Rattle.exact.specs.Whole.{Whole, ◌⊕◌, ◌⊙◌, Same, Below, Within}
use Rattle.exact.specs.Exact.{exact}
use Rattle.exact.specs.Running.{tri}
use Rattle.exact.proofs.Running.{tri_is}
use Rattle.error.proofs.Ladder.{join}
use Rattle.state.specs.declared.State.{State}
use Rattle.state.specs.Record.{step_now_of}
use Rattle.plan.specs.Plan.{increment_of}
use Rattle.big.specs.Value.{half}
use Rattle.positions.specs.Positions.{unit, inside, position_of}
use Rattle.lines.specs.Lines.{move_of, block_fits}
use Rattle.sheet_claims.proofs.Values.{units_of, Lived}

-- ---- a position is inside where it is below 2 ^ 63 in size: U units are one of its, and H of its are 2 ^ 63
below_half : (U H b : ℕ) (v w : Whole) → U * H ≡ b → Same (U ⊙ v) w → Below b w → Below H v
below_half U H b v w e h k = (
  lt_of_mul-lt-mul_right U (omega arith),
  lt_of_mul-lt-mul_right U (omega arith),
)

pub inside_of : (v w : Whole) → Same (unit ⊙ v) w → Below (2 ^ 1137) w → inside v ≡ true
unfolding unit half
inside_of v w h k =
    let b = below_half unit half (2 ^ 1137) v w refl h k in
    join (le-leb v.1 (v.0 + half) (le_of_lt b.1)) (lt-ltb v.0 (v.1 + half) b.0)

pub wider : (b c : ℕ) (v : Whole) → b ≤ c → Below b v → Below c v
wider b c v l h = omega arith

-- ---- a block's parts
times_below : (n M b : ℕ) (v : Whole) → 0 < b → n ≤ M → Below b v → Below ((M + 1) * b) (n ⊙ v)
times_below n M b v p l h = omega (arith, mul-le-mul_left n (le_of_lt h.0), mul-le-mul_left n (le_of_lt h.1), mul-le-mul_right b l)

sum_below : (b c : ℕ) (v w : Whole) → Below b v → Below c w → Below (b + c) (v ⊕ w)
sum_below b c v w h k = omega arith

times_same : (U n : ℕ) (p v : Whole) → U ⊙ p ≡ v → Same (U ⊙ (n ⊙ p)) (n ⊙ v)
times_same U n p v e = subst (λ (z : Whole). Same (U ⊙ (n ⊙ p)) (n ⊙ z)) e (omega arith)

sum_same : (U : ℕ) (p q v w : Whole) → Same (U ⊙ p) v → Same (U ⊙ q) w → Same (U ⊙ (p ⊕ q)) (v ⊕ w)
sum_same U p q v w h k = omega arith

pub same_of : (U : ℕ) (p v : Whole) → U ⊙ p ≡ v → Same (U ⊙ p) v
same_of U p v e = subst (λ (z : Whole). Same (U ⊙ p) z) e (omega arith)

tri_few : (n : ℕ) → n ≤ 65536 → tri n ≤ 4295032832
tri_few n l = let m : n + 1 ≤ 65537 = omega arith in omega (arith, tri_is n, mul-le-mul l m)

pub block_fits_lem : (s t : State) → Lived s t → block_fits s.output (step_now_of s) (increment_of s) t.index ≡ true
block_fits_lem s t v =
    let n = s.output in
    let x = step_now_of s in
    let d = increment_of s in
    let p = times_same unit n (position_of x) (exact binary64 x) (units_of x v.now.multiple) in
    let q = times_same unit (tri n) (position_of d) (exact binary64 d) (units_of d v.increment.multiple) in
    let a = times_below n 65536 (2 ^ 1084) (exact binary64 x) (pow_pos 1084) v.output_few v.now.below in
    let b = times_below (tri n) 4295032832 (2 ^ 1084) (exact binary64 d) (pow_pos 1084) (tri_few n v.output_few) v.increment.below in
    let X = n ⊙ exact binary64 x in
    let D = tri n ⊙ exact binary64 d in
    join (inside_of (position_of t.index) (exact binary64 t.index) (same_of unit (position_of t.index) (exact binary64 t.index) (units_of t.index v.multiple)) (wider (2 ^ 1091) (2 ^ 1137) (exact binary64 t.index) (lit≤ tt) v.inside))
    (join (inside_of (n ⊙ position_of x) X p (wider ((65536 + 1) * 2 ^ 1084) (2 ^ 1137) X (lit≤ tt) a))
    (join (inside_of (tri n ⊙ position_of d) D q (wider ((4295032832 + 1) * 2 ^ 1084) (2 ^ 1137) D (lit≤ tt) b))
    (inside_of (move_of n x d) (X ⊕ D) (sum_same unit (n ⊙ position_of x) (tri n ⊙ position_of d) X D p q)
    (wider ((65536 + 1) * 2 ^ 1084 + (4295032832 + 1) * 2 ^ 1084) (2 ^ 1137) (X ⊕ D) (lit≤ tt) (sum_below ((65536 + 1) * 2 ^ 1084) ((4295032832 + 1) * 2 ^ 1084) X D a b)))))

-- ---- the line's figures after fewer than 2 ^ 46 blocks of at most 65,536 frames each way
pub stored_below : (W M b x : ℕ) (i : Whole) → x ≤ M → Below b i → Below (M * W + b) ((x * W, 0) ⊕ i)
stored_below W M b x i l h = omega (arith, mul-le-mul_right W l)

pub exactly_below : (b c e : ℕ) (v w : Whole) → Below b v → Within c v w → c ≤ e → Below (b + e) w
exactly_below b c e v w h k l = omega arith

pub most_below : (N B M C P R m : ℕ) → N ≤ M → B ≤ C → m ≤ (N + B) * P + N * R → m ≤ (M + C) * P + M * R
most_below N B M C P R m a b h = omega (arith, mul-le-mul_right P a, mul-le-mul_right P b, mul-le-mul_right R a)

pub counted : (N B : ℕ) → N ≤ B * 65536 → B < 2 ^ 46 → (N ≤ 2 ^ 62) × (N < 18446744073709551616) × (B ≤ 2 ^ 46) × (B < 18446744073709551616)
counted N B h l = omega arith
