-- `samples::frames::spread` meets its contract: each turn places one channel's samples more. Assumes nothing.
use native.Mathlib.Omega.{arith}
use Rattle.samples.proofs.Loops.{spread_next, spread_done}
use Rattle.samples.proofs.Order.{went_none, turn_none, turn_done}
use Rattle.samples.proofs.Places.{placed_in, placed_on}
use Rattle.samples.proofs.frames.spread.Goals as goal

pub loop-i-init : goal.loop-i-init
loop-i-init c = (omega arith, went_none _ _ _ _)

pub loop-j-init : goal.loop-j-init
loop-j-init c = (record { is = c.place_of-to.ensures.0 }, turn_none _ _ _ _ _ (omega arith))

pub offset_bounds-area-to : goal.offset_bounds-area-to
offset_bounds-area-to c = omega (arith, placed_in _ _ _ _ c.loop-j.invariant.0 (omega arith) (omega arith))

pub bounds-area-to : goal.bounds-area-to
bounds-area-to c = omega (arith, placed_in _ _ _ _ c.loop-j.invariant.0 (omega arith) (omega arith))

pub overflow_add-to : goal.overflow_add-to
overflow_add-to c = omega (arith, placed_in _ _ _ _ c.loop-j.invariant.0 (omega arith) (omega arith))

pub overflow_add-j : goal.overflow_add-j
overflow_add-j c = omega (arith, placed_in _ _ _ _ c.loop-j.invariant.0 (omega arith) (omega arith))

pub loop-j-preserved : goal.loop-j-preserved
loop-j-preserved c = (placed_on _ _ _ _ _ c.loop-j.invariant.0 (omega arith), spread_next _ _ _ _ _ (omega arith) (omega arith) _ _ _ _ _ _ c.loop-j.invariant.1 c.loop-j.invariant.0 c.sample_at-x.ensures (omega arith))

pub loop-i-preserved : goal.loop-i-preserved
loop-i-preserved c = (omega arith, turn_done _ _ _ _ _ _ _ _ c.loop-i.invariant.1 c.loop-j.invariant.1 (omega arith))

pub shape_of-area : goal.shape_of-area
shape_of-area c = c.loop-i.invariant.1.long

pub returns : goal.returns
returns c = spread_done _ _ _ _ _ (omega arith) (omega arith) _ _ _ c.loop-i.invariant.1 (omega arith)
