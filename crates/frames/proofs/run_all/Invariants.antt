-- `frames::run_all` meets its contract. The invariant: the output is that of the first f frames. Assumes nothing.
use Prim.Native.Nat.{◌≤◌}
use Rattle.frames.proofs.Run.{Ran}
use Rattle.frames.proofs.run_all.Given as goal

abbrev pub invariant-loop-f : goal.invariant-loop-f
invariant-loop-f l = (l.f ≤ l.n) × Ran l.kind l.table l.needed l.mask l.work l.stride l.t l.d l.i l.at l.share l.channels l.initial.out l.out l.moment l.f
