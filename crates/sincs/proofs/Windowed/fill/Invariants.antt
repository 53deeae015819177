-- `sincs::Windowed::fill`: each turn stores one entry more. Assumes nothing.
use Rattle.window_points.proofs.Fills.{Filling}
use Rattle.sincs.specs.Table.{entry_at}
use Rattle.sincs.proofs.Windowed.fill.Given as goal

abbrev pub invariant-loop-j : goal.invariant-loop-j
invariant-loop-j l = Filling (entry_at l.self.points l.self.factor l.self.cutoff l.self.windowfunc) l.initial.sincs l.sincs l.j
