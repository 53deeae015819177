-- `schedule::words::run_end` meets its contract: the bytes passed are of the kind. Assumes nothing.
use Rattle.std.proofs.Common.{arith}
use Rattle.schedule.proofs.Runs.{running_none, running_next, running_less, running_done}
use Rattle.schedule.proofs.words.run_end.Goals as goal

pub loop-at-init : goal.loop-at-init
loop-at-init c = running_none _ _ _ c.requires

pub overflow_add-at : goal.overflow_add-at
overflow_add-at c = omega (arith, running_less _ _ _ _ c.loop-at.invariant _ c.goes_on.ensures c.loop-at-test.true)

pub loop-at-smaller : goal.loop-at-smaller
loop-at-smaller c = omega (arith, running_less _ _ _ _ c.loop-at.invariant _ c.goes_on.ensures c.loop-at-test.true)

pub loop-at-preserved : goal.loop-at-preserved
loop-at-preserved c = running_next _ _ _ _ c.loop-at.invariant _ c.goes_on.ensures c.loop-at-test.true

pub returns : goal.returns
returns c = record { place = (running_done _ _ _ _ c.loop-at.invariant _ c.goes_on.ensures c.loop-at-test.false).0; within = (running_done _ _ _ _ c.loop-at.invariant _ c.goes_on.ensures c.loop-at-test.false).1 }
