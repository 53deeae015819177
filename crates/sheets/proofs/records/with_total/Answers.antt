-- `sheets::records::with_total` meets its contract. Assumes nothing.
use Rattle.lines.specs.Lines.{figures_of}
use Rattle.sheets.specs.Sheet.{page_of, row_of, sums_of, judged_of}
use Rattle.sheets.proofs.Judging.{total_fits, total_over}
use Rattle.sheets.proofs.records.with_total.Goals as goal

pub returns-in-Some : goal.returns-in-Some
returns-in-Some c = let a = c.args in
    total_fits (page_of a.s) (sums_of a.closed) (row_of a.told) (figures_of a.l) c.with_line.result _ c.in-Some.is c.with_line.ensures

pub returns-in-None : goal.returns-in-None
returns-in-None c = let a = c.args in
    total_over (page_of a.s) (sums_of a.closed) (row_of a.told) (figures_of a.l) c.with_line.result (judged_of c.ended.result) c.in-None.is c.with_line.ensures c.ended.ensures
