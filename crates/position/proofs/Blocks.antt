-- One accepted block, over any number of points: the index that it leaves, with the input size added, is at most so far from the exact move. In units of 2 ^ -1074. Assumes nothing.
use mathlib.Core.Bool.{Bool, true, false, cond}
use mathlib.Core.Path.{◌≡◌, refl, sym, ap, subst}
use Prim.Native.Nat.{ℕ, zero, suc, ◌+◌, ◌*◌, ◌^◌, ◌≤◌, ◌<◌}
use native.Mathlib.Nat.{le_refl, le_trans, lt_irrefl, zero-lt-suc, mul-zero, mul-le-mul_right}
use native.Mathlib.Omega.{arith}
use lib.Dec.{lit≤}
use lib.Ieee.{Float, binary64, eq}
use lib.Pow.{pow_pos}
use Rattle.exact.specs.Doubles.{◌-f◌, ◌/f◌, count, zero_f}
use Rattle.exact.specs.Whole.{Whole, ◌⊕◌, ◌⊖◌, ◌⊙◌, Same, Less, AtMost, Below, Within}
use Rattle.exact.specs.Exact.{exact, Number}
use Rattle.exact.specs.Running.{run, walk, tri}
use Rattle.exact.proofs.Order.{eq_exact}
use Rattle.exact.proofs.Running.{tri_is, walk_within}
use Rattle.path.specs.Path.{path_at}
use Rattle.kinds.specs.declared.Kind.{Kind}
use Rattle.kinds.specs.Kinds.{points_of, kind_holds}
use Rattle.kinds.proofs.Laws.{points_few}
use Rattle.path.specs.Sites.{all_reach}
use Rattle.path.proofs.Inside.{Inside, reach_inside}
use Rattle.position.proofs.Amounts.{zero_exact, count_exact, sub_of}
use Rattle.position.proofs.Tests.{holds}
use Rattle.position.proofs.Steps.{Pace, Step, increment_near, steps_near}
use Rattle.position.proofs.Flat.{steps_flat}
use Rattle.position.proofs.Path.{path_index}

-- n frames from the index i by the step t and the increment d, and c frames of input: y is the index that is left
pub record Moved (n c ramps : ℕ) (t d i y : Float) : Type 0 where
  pub number : Number binary64 y
  pub inside : Below (2 ^ 1091) (exact binary64 y)
  pub near : Within ((n + 1) * 2 ^ 1037 + ramps) ((c * 2 ^ 1074, 0) ⊕ exact binary64 y) (exact binary64 i ⊕ (n ⊙ exact binary64 t ⊕ tri n ⊙ exact binary64 d))

-- ---- the input size is taken off
taken_near : (n q C K w : ℕ) (i t d x y : Whole) → Within (n * K + w) x (i ⊕ n ⊙ t ⊕ q ⊙ d) → Within K y (x ⊖ (C, 0)) → Within ((n + 1) * K + w) ((C, 0) ⊕ y) (i ⊕ (n ⊙ t ⊕ q ⊙ d))
taken_near n q C K w i t d x y h k = omega arith

taken_inside : (U K : ℕ) (v y : Whole) → K ≤ U → Below (131071 * U) v → Within K y v → Below (131072 * U) y
taken_inside U K v y l h w = omega arith

taken_below : (U : ℕ) (v : Whole) → Below (131071 * U) v → Below (131072 * U) v
taken_below U v h = omega arith

taken : (n c w : ℕ) (t d i x : Float) → c ≤ 65536 → Number binary64 x → Below (131071 * 2 ^ 1074) (exact binary64 x ⊖ (c * 2 ^ 1074, 0))
    → Within (n * 2 ^ 1037 + w) (exact binary64 x) (exact binary64 i ⊕ n ⊙ exact binary64 t ⊕ tri n ⊙ exact binary64 d) → Moved n c w t d i (x -f count c)
taken n c w t d i x l p h k =
    let C = count_exact c (le_trans l (lit≤ tt)) in
    let v = exact binary64 x ⊖ (c * 2 ^ 1074, 0) in
    let y = exact binary64 (x -f count c) in
    let r = sub_of 17 (2 ^ 1037) x (count c) (exact binary64 x) (c * 2 ^ 1074, 0) p C.0 refl C.1 (lit≤ tt) (lit≤ tt) (taken_below (2 ^ 1074) v h) in
    record {
      number = r.0;
      inside = taken_inside (2 ^ 1074) (2 ^ 1037) v y (lit≤ tt) h r.1;
      near = taken_near n (tri n) (c * 2 ^ 1074) (2 ^ 1037) w (exact binary64 i) (exact binary64 t) (exact binary64 d) (exact binary64 x) y k r.1;
    }

-- ---- a block of no frames
none_below : (U C : ℕ) (i : Whole) → 0 < U → U ≤ C → Below (131072 * U) i → AtMost (C, 0) (i ⊕ (1300 * U, 0)) → Below (131071 * U) (i ⊖ (C, 0))
none_below U C i P l h k = omega arith

pub block_none : (c : ℕ) (t d i : Float) → 1 ≤ c → c ≤ 65536 → Number binary64 i → Below (2 ^ 1091) (exact binary64 i) → AtMost (c * 2 ^ 1074, 0) (exact binary64 i ⊕ (1300 * 2 ^ 1074, 0))
    → Moved 0 c 0 t d i (i -f count c)
unfolding tri
block_none c t d i s l p h k =
    taken 0 c 0 t d i i l p (none_below (2 ^ 1074) (c * 2 ^ 1074) (exact binary64 i) (pow_pos 1074) (once (2 ^ 1074) c s) h k) (start (2 ^ 1037) (exact binary64 i) (exact binary64 t) (exact binary64 d))
  where
    once : (U c : ℕ) → 1 ≤ c → U ≤ c * U
    once U c h = omega (arith, mul-le-mul_right U h)

    start : (K : ℕ) (i t d : Whole) → Within (0 * K + 0) i (i ⊕ 0 ⊙ t ⊕ 0 ⊙ d)
    start K i t d = omega arith

-- ---- a block of some frames: Reach bounds each index on the way
-- x lies from -(2l + 1) on and below c + 1, with l points
module _ (U l c : ℕ) (x : Whole) (P : 0 < U) (ls : 2 * l + 1 ≤ 513) (lc : c ≤ 65536) (least : AtMost (0, (2 * l + 1) * U) x) (below : Less x ((c + 1) * U, 0)) where
  place_below : Below (131072 * U) x
  place_below = omega (arith, mul-le-mul_right U ls, mul-le-mul_right U lc)

  place_taken : Below (131071 * U) (x ⊖ (c * U, 0))
  place_taken = omega (arith, mul-le-mul_right U ls, mul-le-mul_right U lc)

step_below : (h : ℕ) (t : Whole) → Pace h t → Below (131072 * (2 ^ 46 * h)) t
step_below h t a = omega arith

ramp_is : (n h : ℕ) → tri n * (2 * h) ≡ n * (n + 1) * h
ramp_is n h = omega (arith, ap (λ (x : ℕ). x * h) (tri_is n))

module _ (k : Kind) (holds-kind : kind_holds k ≡ true) (n c : ℕ) (t u i : Float) (a : Step t) (b : Step u) (p : Number binary64 i) (q : Below (2 ^ 1091) (exact binary64 i))
    (some : 0 < n) (ln : n ≤ 65536) (lc : c ≤ 65536)
    (reach : all_reach k c t ((u -f t) /f count n) i n ≡ true) where
  abbrev inc : Float
  inc = (u -f t) /f count n

  -- the index after j frames
  abbrev at : ℕ → Float
  at j = walk binary64 j i t inc

  -- 2L + 1 is small
  few : 2 * points_of k + 1 ≤ 513
  few = omega (arith, points_few k holds-kind)

  frame : (j : ℕ) → suc j ≤ n → Inside (points_of k) c (at (suc j))
  frame j l = subst (Inside (points_of k) c) (path_index t inc i (suc j)) (reach_inside k c t inc i n reach (suc j) (zero-lt-suc j) l)

  stays : (j : ℕ) → j ≤ n → Number binary64 (at j) × Below (2 ^ 1091) (exact binary64 (at j))
  unfolding walk
  stays zero l = (p, q)
  stays (suc j) l =
      let w = frame j l in
      (w.number, place_below (2 ^ 1074) (points_of k) c (exact binary64 (at (suc j))) (pow_pos 1074) few lc w.at_least w.below)

  -- the last index is at most n slacks, and w, away from the exact one
  abbrev Ends : ℕ → Type 0
  Ends w = Within (n * 2 ^ 1037 + w) (exact binary64 (at n)) (exact binary64 i ⊕ n ⊙ exact binary64 t ⊕ tri n ⊙ exact binary64 inc)

  -- where each step is at most j * g away from the exact one
  ends : (g : ℕ) → ((j : ℕ) → j ≤ n → Number binary64 (run binary64 j t inc) × Within (j * g) (exact binary64 (run binary64 j t inc)) (exact binary64 t ⊕ j ⊙ exact binary64 inc)) → Ends (tri n * g)
  ends g s = walk_within binary64 17 g n i t inc (lit≤ tt) s stays

  -- where d is zero nothing is rounded on the steps
  ends_by : (z : Bool) → eq inc zero_f ≡ z → Ends (cond z 0 (n * (n + 1) * 2 ^ 1028))
  ends_by true e =
      let d = (increment_near t u a b n some ln).0 in
      let z = subst (Same (exact binary64 inc)) zero_exact.1 ((eq_exact binary64 inc zero_f d zero_exact.0).0 (holds e)) in
      subst Ends (mul-zero (tri n)) (ends 0 (λ j l. steps_flat t inc a.number d z (step_below (2 ^ 1028) (exact binary64 t) a.pace) j))
  ends_by false e = subst Ends (ramp_is n (2 ^ 1028)) (ends (2 ^ 1029) (steps_near t u a b n some ln))

  last_taken : (m : ℕ) → 0 < m → m ≤ n → Number binary64 (at m) × Below (131071 * 2 ^ 1074) (exact binary64 (at m) ⊖ (c * 2 ^ 1074, 0))
  last_taken zero h l = absurd (lt_irrefl 0 h)
  last_taken (suc j) h l =
      let w = frame j l in
      (w.number, place_taken (2 ^ 1074) (points_of k) c (exact binary64 (at (suc j))) (pow_pos 1074) few lc w.at_least w.below)

  abbrev ramps : ℕ
  ramps = cond (eq inc zero_f) 0 (n * (n + 1) * 2 ^ 1028)

  pub block_some : Moved n c (cond (eq inc zero_f) 0 (n * (n + 1) * 2 ^ 1028)) t inc i ((path_at t inc i n).index -f count c)
  block_some =
      let w = last_taken n some (le_refl n) in
      subst (λ (x : Float). Moved n c ramps t inc i (x -f count c)) (sym (path_index t inc i n)) (taken n c ramps t inc i (at n) lc w.0 w.1 (ends_by (eq inc zero_f) refl))
