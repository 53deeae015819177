-- `sincs::Windowed::sum`: each turn adds one value more. Assumes nothing.
use Rattle.std.proofs.Common.{◌≡◌}
use Rattle.sincs.specs.Sinc.{value_at}
use Rattle.sincs.specs.Table.{sum_to}
use Rattle.sincs.proofs.Windowed.sum.Given as goal

abbrev pub invariant-loop-x : goal.invariant-loop-x
invariant-loop-x l = l.sum ≡ sum_to (value_at l.self.points l.self.factor l.self.cutoff l.self.windowfunc) l.x
