-- `lent::run_on_zeros` meets its contract. Assumes nothing.
use Rattle.lent.proofs.Fronts.{run_zeros}
use Rattle.lent.proofs.run_on_zeros.Goals as goal

pub returns : goal.returns
returns c = let a = c.args in
    run_zeros a.s _ _ a.table.now a.input.now a.output.now _ a.work.now _ c.zero_all.ensures c.process_into_buffer.ensures
