-- `sheets::totals::with_line` meets its contract. Assumes nothing.
use Rattle.sheets.proofs.Judging.{sum_on}
use Rattle.sheets.proofs.totals.with_line.Goals as goal

pub returns : goal.returns
returns c = let a = c.args in
    sum_on a.t a.l c.counted.result _ c.sum.result c.sum-2.result c.placed.result c.in_ok-next.was c.counted.ensures c.sum.ensures c.sum-2.ensures c.placed.ensures
