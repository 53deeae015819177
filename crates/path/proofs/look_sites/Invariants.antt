-- `path::look_sites` meets its contract. The invariant: the moment and the answer are those of the frames so far. Assumes nothing.
use Prim.Native.Nat.{◌≤◌}
use Rattle.path.specs.Sites.{site_of, reached}
use Rattle.path.proofs.Path.{Along}
use Rattle.path.proofs.look_sites.Given as goal

abbrev pub invariant-loop-f : goal.invariant-loop-f
invariant-loop-f l = (l.f ≤ l.n) × Along (λ x. reached (site_of l.kind l.needed x)) l.t l.d l.i l.at l.reach l.f
