-- `log_calls::put_block` meets its contract. Assumes nothing.
use Rattle.log_calls.proofs.Fronts.{of_payload}
use Rattle.log_calls.proofs.put_block.Goals as goal

pub returns : goal.returns
returns c = let a = c.args in let p = of_payload 3 _ _ a.out.now c.put_record.result _ c.block_payload-payload.ensures (c.put_record.ensures.answer, c.put_record.ensures.area) in
    record { answer = p.0; area = p.1 }
