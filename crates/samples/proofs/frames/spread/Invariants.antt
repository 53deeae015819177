-- `samples::frames::spread` meets its contract: each turn places one channel's samples more. Assumes nothing.
use Prim.Native.Nat.{◌+◌, ◌-◌, ◌≤◌}
use Rattle.samples.proofs.Loops.{reading}
use Rattle.samples.proofs.Order.{Went, Turn}
use Rattle.samples.proofs.Places.{Placed}
use Rattle.samples.proofs.frames.spread.Given as goal

abbrev pub invariant-loop-j : goal.invariant-loop-j
invariant-loop-j l = Placed l.channels l.share (l.first + l.j) l.to × Turn l.channels (reading l.channels l.share l.first l.bytes) l.n l.initial.area l.area l.i l.j

abbrev pub decreases-loop-j : goal.decreases-loop-j
decreases-loop-j l = l.n - l.j

abbrev pub invariant-loop-i : goal.invariant-loop-i
invariant-loop-i l = (l.i ≤ l.i-end) × Went l.channels (reading l.channels l.share l.first l.bytes) l.n l.initial.area l.area l.i l.i

abbrev pub decreases-loop-i : goal.decreases-loop-i
decreases-loop-i l = l.i-end - l.i
