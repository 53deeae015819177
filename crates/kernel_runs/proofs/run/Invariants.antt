-- `kernel_runs::run` meets its contract. Assumes nothing.
use Prim.Native.Nat.{◌≤◌, ◌-◌}
use Rattle.kernel_runs.proofs.Runs.{Run}
use Rattle.kernel_runs.proofs.run.Given as goal

abbrev pub invariant-loop-k : goal.invariant-loop-k
invariant-loop-k g l = (l.k ≤ l.k-end) × (Run g.K.Kernel.degree l.work l.places l.fracs l.initial.out l.out l.k)

abbrev pub decreases-loop-k : goal.decreases-loop-k
decreases-loop-k g l = l.k-end - l.k
