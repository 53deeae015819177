-- `sheets::records::end_log` meets its contract. Assumes nothing.
use mathlib.Core.Bool.{false}
use Rattle.lines.specs.declared.End.TheVariants as end
use Rattle.sheets.specs.Sheet.{page_of, row_of, closing, current_of, line_row, log_end}
use Rattle.sheets.proofs.Judging.{turned}
use Rattle.sheets.proofs.records.end_log.Goals as goal

pub returns : goal.returns
unfolding log_end
returns c = let a = c.args in
    turned (page_of c.without_line.result) (closing (page_of a.s)) (row_of c.line_told.result) (line_row (current_of a.s.line) end.Open) false c.without_line.ensures c.line_told.ensures
