-- `kernel_frames::fill_all` meets its contract. The invariant: the first c channels have the frames. Assumes nothing.
use Prim.Native.Nat.{◌≤◌}
use Rattle.area.proofs.Parted.{Parted}
use Rattle.frames.specs.Turns.{on_in}
use Rattle.kernel_frames.specs.Turns.{some_frames}
use Rattle.kernel_frames.proofs.fill_all.Given as goal

abbrev pub invariant-loop-c : goal.invariant-loop-c
invariant-loop-c l = (l.c ≤ l.channels) × Parted (on_in l.mask l.work l.stride (some_frames l.degree l.places l.fracs l.k l.n)) l.share l.initial.out l.out l.c
