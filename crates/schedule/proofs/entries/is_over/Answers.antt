-- `schedule::entries::is_over` meets its contract. Assumes nothing.
use Rattle.schedule.proofs.Lines.{over_past, over_here}
use Rattle.schedule.proofs.entries.is_over.Goals as goal

pub returns-then-at-line : goal.returns-then-at-line
returns-then-at-line c = over_past _ _ c.if-at-line.true

pub returns : goal.returns
returns c = over_here _ _ c.if-at-line.false
