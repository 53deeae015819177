-- `schedule::words::run_end` meets its contract: the bytes passed are of the kind. Assumes nothing.
use Rattle.std.proofs.Common.{◌-◌, length}
use Rattle.schedule.proofs.Runs.{Running}
use Rattle.schedule.proofs.words.run_end.Given as goal

abbrev pub invariant-loop-at : goal.invariant-loop-at
invariant-loop-at l = Running l.blank l.line l.from l.at

abbrev pub decreases-loop-at : goal.decreases-loop-at
decreases-loop-at l = length l.line - l.at
