-- `frames::write_frame` meets its contract. The invariant: the first c channels have the frame. Assumes nothing.
use Prim.Native.Nat.{◌≤◌}
use Rattle.area.proofs.Parted.{Parted}
use Rattle.frames.specs.Turns.{on_in, one_frame}
use Rattle.frames.proofs.write_frame.Given as goal

abbrev pub invariant-loop-c : goal.invariant-loop-c
invariant-loop-c l = (l.c ≤ l.channels) × Parted (on_in l.mask l.work l.stride (one_frame l.table l.site l.k)) l.share l.initial.out l.out l.c
