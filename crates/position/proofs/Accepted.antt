-- What an accepted block is known to have passed, and the law of its index. Assumes nothing.
use Rattle.std.specs.Prelude.{Some, is_some}
use mathlib.Core.Bool.{Bool, true, cond}
use mathlib.Core.Path.{◌≡◌, sym, ap, subst}
use Prim.Native.Nat.{ℕ, zero, suc, ◌+◌, ◌*◌, ◌^◌, ◌≤◌, ◌<◌}
use native.Mathlib.Nat.{le_trans, zero-lt-suc}
use native.Mathlib.Omega.{arith}
use lib.Dec.{eqb, eqb-suc-zero}
use lib.Ieee.{Float, binary64, eq}
use Rattle.exact.specs.Doubles.{◌-f◌, ◌/f◌, count, zero_f}
use Rattle.exact.specs.Whole.{◌⊕◌, AtMost, Below}
use Rattle.exact.specs.Exact.{exact, Number}
use Rattle.error.specs.Refusals.{given}
use Rattle.sizes.specs.declared.FixedAsync.{FixedAsync}
use Rattle.sizes.specs.declared.FixedAsync.TheVariants.{Input, Output}
use Rattle.state.specs.declared.State.{State}
use Rattle.sizes.specs.Bounds.{is_size}
use Rattle.sizes.specs.Sizes.{needed_input, needed_output, frames_of, size_at_least}
use Rattle.state.specs.Record.{points_in, step_now_of, step_then_of, input_of, output_of, max_input_of, is_state, with_sizes, update_lengths}
use Rattle.kinds.proofs.Laws.{points_few}
use Rattle.state.proofs.Checked.{check_accepted}
use Rattle.state.proofs.Valid.{valid}
use Rattle.error.proofs.Ladder.{accepted, same_given}
use Rattle.path.specs.Path.{path_at}
use Rattle.path.specs.Sites.{all_reach}
use Rattle.shape.specs.Shape.{shape_holds}
use Rattle.plan.specs.Plan.{increment_of, reach_holds, after_block, planned}
use Rattle.position.specs.Position.{ramp_of}
use Rattle.position.proofs.Amounts.{looser}
use Rattle.position.proofs.Tests.{holds, Double, index_of}
use Rattle.position.proofs.Steps.{Step, step_now, step_then}
use Rattle.position.proofs.Empty.{count_is, none_ahead}
use Rattle.position.proofs.Blocks.{Moved, block_none, block_some}

-- ---- the end of every call keeps all but the two sizes
pub sizes_given : (s t : State) → update_lengths s ≡ given t → t ≡ with_sizes s (frames_of (input_of s)) (frames_of (output_of s))
unfolding update_lengths
sizes_given s t e =
    let a = accepted (is_some (input_of s)) _ _ _ t e in
    let b = accepted (is_some (output_of s)) _ _ _ t a.1 in
    let c = accepted (size_at_least (max_input_of s) (frames_of (input_of s))) _ _ _ t b.1 in
    sym (same_given (with_sizes s (frames_of (input_of s)) (frames_of (output_of s))) t c.1)

-- what an accepted block has passed
pub record Passed (s t : State) : Type 0 where
  pub state : is_state s ≡ true
  pub reach : reach_holds s ≡ true
  pub left : t ≡ with_sizes (after_block s) (frames_of (input_of (after_block s))) (frames_of (output_of (after_block s)))

pub passed : (s t : State) (frames mask table a b w : ℕ) → planned s frames mask table a b w ≡ given t → Passed s t
unfolding planned
passed s t frames mask table a b w e =
    let p = check_accepted s _ t e in
    let q = accepted (shape_holds s frames mask table a b w) _ _ _ t p.1 in
    let r = accepted (reach_holds s) _ _ _ t q.1 in
    record { state = p.0; reach = r.0; left = sizes_given (after_block s) t r.1 }

-- ---- a block of no frames has its input fixed, and that is its chunk
none_of : (f : FixedAsync) (l c n : ℕ) (i t u : Float) → l ≤ 256 → 1 ≤ c → c ≤ 65536 → Number binary64 i → Below (2 ^ 1091) (exact binary64 i) → Step t → Step u
    → needed_input f l c i t u ≡ Some n → needed_output f l c i t u ≡ Some 0 → (1 ≤ n) × AtMost (n * 2 ^ 1074, 0) (exact binary64 i ⊕ (1300 * 2 ^ 1074, 0))
unfolding needed_input needed_output
none_of Input l c n i t u hl h hc p q a b e z =
    let k = count_is (is_size c) c n e in
    (subst (λ (x : ℕ). 1 ≤ x) k h, subst (λ (x : ℕ). AtMost (x * 2 ^ 1074, 0) (exact binary64 i ⊕ (1300 * 2 ^ 1074, 0))) k (none_ahead l c i t u hl hc p q a b z))
none_of Output l c n i t u hl h hc p q a b e z = let k = count_is (is_size c) c 0 z in absurd (omega arith)

more : (n c w : ℕ) (t d i y : Float) → Moved n c 0 t d i y → Moved n c w t d i y
more n c w t d i y m = record { number = m.number; inside = m.inside; near = looser _ _ _ _ (above _ w) m.near }
  where
    above : (a w : ℕ) → a + 0 ≤ a + w
    above a w = omega arith

-- ---- the law of a block, by how many frames it has
module _ (s : State) (q : Double s.index) (h : is_state s ≡ true) where
  abbrev inc_at : ℕ → Float
  inc_at n = cond (eqb n 0) zero_f ((step_then_of s -f step_now_of s) /f count n)

  now : Step (step_now_of s)
  now = step_now s h

  then : Step (step_then_of s)
  then = step_then s h

  index : Number binary64 s.index × Below (2 ^ 1091) (exact binary64 s.index)
  index = index_of s.index q (holds (valid s h).index_inside)

  -- the block with n frames and the increment d
  abbrev MovedBy : ℕ → Float → Type 0
  MovedBy n d = Moved n s.input (cond (eq d zero_f) 0 (n * (n + 1) * 2 ^ 1028)) (step_now_of s) d s.index ((path_at (step_now_of s) d s.index n).index -f count s.input)

  abbrev ReachBy : ℕ → Float → Type 0
  ReachBy n d = all_reach s.kind s.input (step_now_of s) d s.index n ≡ true

  moved_none : (d : Float) → output_of s ≡ Some 0 → MovedBy 0 d
  unfolding path_at
  moved_none d e =
      let v = valid s h in
      let z = none_of s.fixed (points_in s) s.chunk s.input s.index (step_now_of s) (step_then_of s)
      (points_few s.kind v.kind_holds_lem) v.chunk_some (le_trans v.chunk_most v.chunk0_few) index.0 index.1 now then v.input_is e in
      more 0 s.input (cond (eq d zero_f) 0 (0 * (0 + 1) * 2 ^ 1028)) (step_now_of s) d s.index (s.index -f count s.input)
      (block_none s.input (step_now_of s) d s.index z.0 v.input_few index.0 index.1 z.1)

  moved_some : (n : ℕ) → 0 < n → n ≤ 65536 → ReachBy n ((step_then_of s -f step_now_of s) /f count n) → MovedBy n ((step_then_of s -f step_now_of s) /f count n)
  moved_some n p l r =
      block_some s.kind (valid s h).kind_holds_lem n s.input (step_now_of s) (step_then_of s) s.index now then index.0 index.1 p l (valid s h).input_few r

  moved_by : (n : ℕ) → output_of s ≡ Some n → n ≤ 65536 → ReachBy n (inc_at n) → MovedBy n (inc_at n)
  moved_by zero e l r = moved_none (inc_at 0) e
  moved_by (suc n) e l r =
      let k : inc_at (suc n) ≡ (step_then_of s -f step_now_of s) /f count (suc n) = ap (λ (b : Bool). cond b zero_f ((step_then_of s -f step_now_of s) /f count (suc n))) (eqb-suc-zero n) in
      subst (MovedBy (suc n)) (sym k) (moved_some (suc n) (zero-lt-suc n) l (subst (ReachBy (suc n)) k r))

  pub moved : reach_holds s ≡ true → Moved s.output s.input (ramp_of s s.output) (step_now_of s) (increment_of s) s.index (after_block s).index
  moved r = moved_by s.output (valid s h).output_is (valid s h).output_few r
