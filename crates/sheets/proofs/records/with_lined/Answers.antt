-- `sheets::records::with_lined` meets its contract. Assumes nothing.
use Rattle.sheets.specs.Sheet.{page_of, row_of, sums_of, judged_of}
use Rattle.sheets.proofs.Judging.{line_on, line_ended}
use Rattle.sheets.proofs.records.with_lined.Goals as goal

pub returns-in-Ok : goal.returns-in-Ok
returns-in-Ok c = let a = c.args in
    line_on (page_of a.s) (sums_of a.closed) (row_of a.told) a.lined _ (judged_of c.with_total.result) c.in-Ok.is c.with_total.ensures

pub returns-in-Err : goal.returns-in-Err
returns-in-Err c = let a = c.args in
    line_ended (page_of a.s) (sums_of a.closed) (row_of a.told) a.lined _ (judged_of c.ended.result) c.in-Err.is c.ended.ensures
