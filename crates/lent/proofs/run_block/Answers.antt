-- `lent::run_block` meets its contract. Assumes nothing.
use Rattle.lent.proofs.Fronts.{run_lent}
use Rattle.lent.proofs.run_block.Goals as goal

pub returns : goal.returns
returns c = let a = c.args in
    run_lent a.s _ _ a.table.now a.input.now a.output.now a.work.now _ _ _ _ _ _ c.run_on_zeros.result _ _
    c.area_length.ensures c.front_of-a.ensures c.area_length-2.ensures c.front_of-b.ensures c.work_length.ensures c.front_of-n.ensures
    c.run_on_zeros.ensures
