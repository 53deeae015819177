-- `samples::little::put_little` meets its contract: each turn puts one byte more. Assumes nothing.
use Prim.Native.Nat.{◌≤◌, ◌-◌}
use Rattle.samples.proofs.Bytes.{Put}
use Rattle.samples.proofs.little.put_little.Given as goal

abbrev pub invariant-loop-k : goal.invariant-loop-k
invariant-loop-k l = (l.k ≤ l.width) × Put l.initial.bytes l.at l.n l.width l.bytes l.k

abbrev pub decreases-loop-k : goal.decreases-loop-k
decreases-loop-k l = l.width - l.k
