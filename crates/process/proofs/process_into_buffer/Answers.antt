-- `process::process_into_buffer` meets its contract. Assumes nothing.
use mathlib.Core.Path.{refl}
use Rattle.process.proofs.Written.{block_refused, block_ran, block_tests}
use Rattle.process.proofs.process_into_buffer.Goals as goal

pub write-requires : goal.write-requires
write-requires c = let a = c.args in
    let k = block_tests a.s _ _ a.table.now a.input.now a.output.now a.work.now _ c.plan.ensures _ c.in-Ok.is in
    record { s_value = k.0; work_value = k.1; at_value = (refl, refl) }

pub returns-in-Err : goal.returns-in-Err
returns-in-Err c = let a = c.args in
    block_refused a.s _ _ a.table.now a.input.now a.output.now a.work.now _ c.plan.ensures _ c.in-Err.is

pub returns-in-Ok : goal.returns-in-Ok
returns-in-Ok c = let w = c.write in
    let a = c.args in
    block_ran a.s _ _ a.table.now a.input.now a.output.now a.work.now _ c.plan.ensures _ _ _ c.in-Ok.is w.ensures.worked w.ensures.written
