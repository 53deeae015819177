-- `lines::start_line` meets its contract. Assumes nothing.
use Rattle.std.proofs.lemmas.Result.{err_from_is_err_and}
use Rattle.lines.proofs.Grows.{start_on, start_not}
use Rattle.lines.proofs.start_line.Goals as goal

pub returns-in_err-start : goal.returns-in_err-start
returns-in_err-start c = let p = err_from_is_err_and c.from_residual.result c.from_residual.ensures.1 in
    rw (p.1, p.2) (start_not c.args.index c.of_double.result _ c.in_err-start.was c.of_double.ensures)

pub returns : goal.returns
returns c = start_on c.args.index c.of_double.result _ c.line_at.result c.in_ok-start.was c.of_double.ensures c.line_at.ensures
