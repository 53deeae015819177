-- `samples::frames::gather` meets its contract: each turn puts one channel's samples more. Assumes nothing.
use Prim.Native.Nat.{◌+◌, ◌-◌, ◌≤◌}
use Rattle.samples.proofs.Loops.{writing}
use Rattle.samples.proofs.Order.{Went, Turn}
use Rattle.samples.proofs.Places.{Placed}
use Rattle.samples.proofs.frames.gather.Given as goal

abbrev pub invariant-loop-j : goal.invariant-loop-j
invariant-loop-j l = Placed l.channels l.share (l.first + l.j) l.from × Turn l.channels (writing l.channels l.share l.first l.area) l.n l.initial.bytes l.bytes l.i l.j

abbrev pub decreases-loop-j : goal.decreases-loop-j
decreases-loop-j l = l.n - l.j

abbrev pub invariant-loop-i : goal.invariant-loop-i
invariant-loop-i l = (l.i ≤ l.i-end) × Went l.channels (writing l.channels l.share l.first l.area) l.n l.initial.bytes l.bytes l.i l.i

abbrev pub decreases-loop-i : goal.decreases-loop-i
decreases-loop-i l = l.i-end - l.i
