-- `path::walk` meets its contract. The invariant: the lists have the places of the frames so far. Assumes nothing.
use Prim.Native.Nat.{◌≤◌}
use Rattle.path.proofs.Walking.{Walking}
use Rattle.path.proofs.walk.Given as goal

abbrev pub invariant-loop-f : goal.invariant-loop-f
invariant-loop-f l = (l.f ≤ l.n) × Walking l.shift l.last l.d l.initial.at l.initial.places l.initial.fracs l.places l.fracs l.at l.reach l.f
