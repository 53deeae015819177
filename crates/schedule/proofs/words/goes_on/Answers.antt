-- `schedule::words::goes_on` meets its contract. Assumes nothing.
use Rattle.schedule.proofs.Runs.{goes_past, goes_here}
use Rattle.schedule.proofs.words.goes_on.Goals as goal

pub returns-then-at-line : goal.returns-then-at-line
returns-then-at-line c = let a = c.args in
    goes_past a.blank a.line.now a.at c.if-at-line.true

pub returns : goal.returns
returns c = let a = c.args in
    goes_here a.blank a.line.now a.at _ c.if-at-line.false c.is_kind.ensures
