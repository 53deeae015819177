-- `samples::frames::gather` meets its contract: each turn puts one channel's samples more. Assumes nothing.
use native.Mathlib.Omega.{arith}
use Rattle.samples.proofs.Loops.{gather_next, gather_done}
use Rattle.samples.proofs.Order.{went_none, turn_none, turn_done}
use Rattle.samples.proofs.Places.{placed_in, placed_on}
use Rattle.samples.proofs.frames.gather.Goals as goal

pub loop-i-init : goal.loop-i-init
loop-i-init c = (omega arith, went_none _ _ _ _)

pub loop-j-init : goal.loop-j-init
loop-j-init c = (record { is = c.place_of-from.ensures.0 }, turn_none _ _ _ _ _ (omega arith))

pub offset_bounds-area-from : goal.offset_bounds-area-from
offset_bounds-area-from c = omega (arith, placed_in _ _ _ _ c.loop-j.invariant.0 (omega arith) (omega arith))

pub bounds-area-from : goal.bounds-area-from
bounds-area-from c = omega (arith, placed_in _ _ _ _ c.loop-j.invariant.0 (omega arith) (omega arith))

pub overflow_add-from : goal.overflow_add-from
overflow_add-from c = omega (arith, placed_in _ _ _ _ c.loop-j.invariant.0 (omega arith) (omega arith))

pub overflow_add-j : goal.overflow_add-j
overflow_add-j c = omega (arith, placed_in _ _ _ _ c.loop-j.invariant.0 (omega arith) (omega arith))

pub loop-j-preserved : goal.loop-j-preserved
loop-j-preserved c = let p = c.loop-j.invariant.0 in
    let b = placed_in _ _ _ _ p (omega arith) (omega arith) in
    (placed_on _ _ _ _ _ p (omega arith), gather_next _ _ _ c.args.area.now _ (omega arith) _ _ _ _ _ _ _ c.loop-j.invariant.1 p c.put_sample.ensures (omega arith) (omega arith) (omega arith))

pub loop-i-preserved : goal.loop-i-preserved
loop-i-preserved c = (omega arith, turn_done _ _ _ _ _ _ _ _ c.loop-i.invariant.1 c.loop-j.invariant.1 (omega arith))

pub shape_of-bytes : goal.shape_of-bytes
shape_of-bytes c = c.loop-i.invariant.1.long

pub returns : goal.returns
returns c = gather_done _ _ _ _ _ (omega arith) _ _ _ c.loop-i.invariant.1 (omega arith) (omega arith)
