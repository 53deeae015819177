-- `wave::line_from` is the line between two places. Assumes nothing.
use Rattle.wave.proofs.line_from.Goals as goal

pub returns : goal.returns
returns c = rw (c.step_at-a.ensures, c.step_at-b.ensures)
