-- `sheets::no_total` meets its contract. Assumes nothing.
use Rattle.sheets.proofs.Judging.{nothing_is}
use Rattle.sheets.proofs.no_total.Goals as goal

pub returns : goal.returns
returns c = nothing_is _ _ c.of_u64.ensures c.of_u64-2.ensures
