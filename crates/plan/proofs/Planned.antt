-- The parts of a plan joined: the increment, the path, the record that a block or a reset leaves. Assumes nothing.
use mathlib.Core.Bool.{Bool, true, false}
use mathlib.Core.List.{[]}
use mathlib.Core.Path.{◌≡◌}
use Prim.Native.Nat.{ℕ}
use borrow.Author.Tests.{eq-eqb, ne_eqb}
use lib.Ieee.{Float}
use Rattle.exact.specs.Doubles.{◌-f◌, ◌/f◌, count, zero_f}
use Rattle.error.specs.Refusals.{Said, refused}
use Rattle.error.proofs.Ladder.{pass, stop}
use Rattle.sizes.specs.Sizes.{start_of}
use Rattle.state.specs.declared.State.{State}
use Rattle.steps.specs.Steps.{step_of}
use Rattle.state.specs.Record.{points_in, step_now_of, step_then_of, is_state, changed, update_lengths}
use Rattle.state.proofs.Checked.{check_pass}
use Rattle.path.specs.Path.{path_at}
use Rattle.path.specs.Sites.{all_reach}
use Rattle.shape.specs.Shape.{shape_holds}
use Rattle.plan.specs.Plan.{increment_of, reach_holds, index_after, after_block, planned, restored, resetting}

-- ---- the ramp's increment
pub increment_none : (s : State) → s.output ≡ 0 → zero_f ≡ increment_of s
increment_none s h = rw (eq-eqb s.output 0 h)

pub increment_some : (s : State) (t u n : Float) → (s.output ≡ 0 → ⊥) → t ≡ step_now_of s → u ≡ step_then_of s → n ≡ count s.output → (u -f t) /f n ≡ increment_of s
increment_some s t u n h a b e = rw (ne_eqb s.output 0 h, a, b, e)

-- ---- the first pass
pub look_is : (s : State) (t d i : Float) (b : Bool) → t ≡ step_now_of s → d ≡ increment_of s
    → b ≡ all_reach s.kind s.input t d s.index s.output → i ≡ (path_at t d s.index s.output).index
    → (b ≡ reach_holds s) × (i ≡ index_after s)
look_is s t d i b e f g h = (rw (g, e, f), rw (h, e, f))

pub after_is : (s : State) (i n : Float) → i ≡ index_after s → n ≡ count s.input
    → changed s s.chunk s.input s.output s.input (i -f n) s.target s.target s.then s.then ≡ after_block s
after_is s i n h e = rw (h, e)

-- ---- a block's ladder, rung by rung
module _ (s : State) (frames mask table input output work : ℕ) where
  pub shape_refused : is_state s ≡ true → shape_holds s frames mask table input output work ≡ false → refused 8 [] ≡ planned s frames mask table input output work
  unfolding planned
  shape_refused a h = check_pass s _ _ a (stop _ _ _ _ h)

  pub reach_refused : is_state s ≡ true → shape_holds s frames mask table input output work ≡ true → reach_holds s ≡ false → refused 9 [] ≡ planned s frames mask table input output work
  unfolding planned
  reach_refused a b h = check_pass s _ _ a (pass _ _ _ _ _ b (stop _ _ _ _ h))

  pub block_made : (x : Said State) → is_state s ≡ true → shape_holds s frames mask table input output work ≡ true → reach_holds s ≡ true → x ≡ update_lengths (after_block s) → x ≡ planned s frames mask table input output work
  unfolding planned
  block_made x a b c h = check_pass s _ _ a (pass _ _ _ _ _ b (pass _ _ _ _ _ c h))

-- ---- reset
pub restored_is : (s : State) (t i : Float) (l : ℕ) → t ≡ step_of s.original → l ≡ points_in s → i ≡ start_of l
    → changed s s.chunk0 s.input s.output s.fill i s.original s.original t t ≡ restored s
restored_is s t i l k h e = rw (e, h, k)
