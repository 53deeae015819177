-- `process::reset` meets its contract. Assumes nothing.
use Rattle.process.proofs.Written.{reset_refused, reset_done}
use Rattle.process.proofs.reset.Goals as goal

pub returns-in-Err : goal.returns-in-Err
returns-in-Err c = let a = c.args in
    reset_refused a.s a.work.now _ c.plan_reset.ensures _ c.in-Err.is

pub returns-in-Ok : goal.returns-in-Ok
returns-in-Ok c = let a = c.args in
    reset_done a.s a.work.now _ c.plan_reset.ensures _ _ c.in-Ok.is c.zero_all.ensures
