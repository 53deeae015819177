-- `sheets::records::block_on` meets its contract. Assumes nothing.
use Rattle.sheets.specs.Sheet.{judged_of}
use Rattle.sheets.proofs.Judging.{block_open, block_early}
use Rattle.sheets.proofs.records.block_on.Goals as goal

pub returns-in-Some : goal.returns-in-Some
returns-in-Some c = let a = c.args in
    block_open a.s _ a.payload.now (judged_of c.take_block.result) c.in-Some.is c.take_block.ensures

pub returns-in-None : goal.returns-in-None
returns-in-None c = let a = c.args in
    block_early a.s a.payload.now (judged_of c.ended.result) c.in-None.is c.ended.ensures
