-- The record that a planned block or reset leaves passes the StateRecord test. Assumes nothing.
use mathlib.Core.Bool.{true}
use mathlib.Core.Path.{◌≡◌}
use Prim.Native.Nat.{ℕ}
use native.Mathlib.Nat.{le_refl, le_trans}
use native.Mathlib.Omega.{arith}
use borrow.Author.Tests.{le-leb}
use Rattle.error.specs.Refusals.{given}
use Rattle.error.proofs.Ladder.{both, join, accepted}
use Rattle.sizes.specs.Bounds.{is_index, is_channels, is_chunk}
use Rattle.sizes.proofs.Start.{start_inside}
use Rattle.state.specs.declared.State.{State}
use Rattle.steps.specs.Steps.{is_step}
use Rattle.state.specs.Record.{points_in, is_state}
use Rattle.kinds.proofs.Laws.{points_few}
use Rattle.state.proofs.Checked.{check_accepted}
use Rattle.steps.proofs.Steps.{fresh_step}
use Rattle.state.proofs.Valid.{Ready, tests, valid}
use Rattle.state.proofs.Keeps.{update_keeps}
use Rattle.shape.specs.Shape.{work_holds, shape_holds}
use Rattle.plan.specs.Plan.{reach_holds, after_block, planned, restored, resetting}

-- ---- the block: the fill becomes the needed input, which the maximum holds; the current ratio and its step become the target's
block_ready : (s : State) → is_state s ≡ true → is_index (after_block s).index ≡ true → Ready (after_block s)
block_ready s h index_inside =
    let v = valid s h in
    let t = tests s h in
    let then = (both (is_step s.now s.current) (is_step s.then s.target) t.0.steps).1 in
    record {
      kind = t.0.kind;
      counts = t.0.counts;
      ratios = join (join (join v.original_ratio v.target_ratio) v.target_ratio) v.m_holds;
      steps = join then then;
      maxima = t.0.maxima;
      fill = t.1.input_most;
      index = index_inside;
    }

pub block_keeps : (s t : State) (frames mask table input output work : ℕ) → (index_inside : is_index (after_block s).index ≡ true)
    → planned s frames mask table input output work ≡ given t → is_state t ≡ true
unfolding planned
block_keeps s t frames mask table input output work index_inside e =
    let a = check_accepted s _ t e in
    let b = accepted (shape_holds s frames mask table input output work) _ _ _ t a.1 in
    let c = accepted (reach_holds s) _ _ _ t b.1 in
    update_keeps (after_block s) t (block_ready s a.0 index_inside) c.1

-- ---- reset: the chunk becomes the construction chunk, the ratios the original, the steps its step, the index the start
reset_ready : (s : State) → is_state s ≡ true → Ready (restored s)
reset_ready s h =
    let v = valid s h in
    let t = (tests s h).0 in
    let channels : is_channels s.channels ≡ true = join (le-leb 1 s.channels v.channels_some) (le-leb s.channels 16 v.channels_few) in
    let chunk : is_chunk s.chunk0 ≡ true = join (le-leb 1 s.chunk0 (le_trans v.chunk_some v.chunk_most)) (le-leb s.chunk0 65536 v.chunk0_few) in
    let r = v.original_ratio in
    record {
      kind = t.kind;
      counts = join (join (join channels chunk) chunk) (le-leb s.chunk0 s.chunk0 (le_refl s.chunk0));
      ratios = join (join (join r r) r) v.m_holds;
      steps = join (fresh_step s.original r) (fresh_step s.original r);
      maxima = t.maxima;
      fill = t.fill;
      index = start_inside (points_in s) (omega (arith, points_few s.kind v.kind_holds_lem));
    }

pub reset_keeps : (s t : State) (work : ℕ) → resetting s work ≡ given t → is_state t ≡ true
unfolding resetting
reset_keeps s t work e =
    let a = check_accepted s _ t e in
    let b = accepted (work_holds s work) _ _ _ t a.1 in
    update_keeps (restored s) t (reset_ready s a.0) b.1
