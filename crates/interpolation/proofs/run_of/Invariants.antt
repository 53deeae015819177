-- `interpolation::run_of` meets its contract. The invariant: the first k points are made. Assumes nothing.
use Prim.Native.Nat.{◌≤◌}
use Rattle.interpolation.specs.Steps.{start_q}
use Rattle.interpolation.proofs.Answers.{Made}
use Rattle.interpolation.proofs.run_of.Given as goal

abbrev pub invariant-loop-k : goal.invariant-loop-k
invariant-loop-k g l = (l.k ≤ g.row.N) × Made l.factor (start_q l.factor l.start) l.ahead g.row.N l.points l.k
