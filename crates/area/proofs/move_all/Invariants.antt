-- `area::move_all` meets its contract: each turn makes one part more anew. Assumes nothing.
use Prim.Native.Nat.{◌≤◌, ◌-◌}
use Rattle.area.specs.Moves.{moved_in}
use Rattle.area.proofs.Parted.{Parted}
use Rattle.area.proofs.move_all.Given as goal

abbrev pub invariant-loop-c : goal.invariant-loop-c
invariant-loop-c l = (l.c ≤ l.channels) × Parted (moved_in l.fill l.l2) l.stride l.initial.work l.work l.c

abbrev pub decreases-loop-c : goal.decreases-loop-c
decreases-loop-c l = l.channels - l.c
