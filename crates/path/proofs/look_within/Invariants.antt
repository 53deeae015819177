-- `path::look_within` meets its contract. The invariant: the moment and the answer are those of the frames so far. Assumes nothing.
use Prim.Native.Nat.{◌≤◌}
use Rattle.path.specs.Turns.{is_within}
use Rattle.path.proofs.Path.{Along}
use Rattle.path.proofs.look_within.Given as goal

abbrev pub invariant-loop-f : goal.invariant-loop-f
invariant-loop-f l = (l.f ≤ l.n) × Along (is_within l.span) l.t l.d l.i l.at l.reach l.f
