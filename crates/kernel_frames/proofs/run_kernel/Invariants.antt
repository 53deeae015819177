-- `kernel_frames::run_kernel` meets its contract. The invariant: the output is that of the first f frames. Assumes nothing.
use Prim.Native.Nat.{◌≤◌, ◌-◌}
use mathlib.Core.Path.{◌≡◌}
use lib.ListN.{length}
use Rattle.kinds.specs.declared.Kind.TheVariants.{Polynomial}
use Rattle.frames.proofs.Run.{Ran}
use Rattle.kernel_frames.proofs.run_kernel.Given as goal

abbrev pub invariant-loop-f : goal.invariant-loop-f
invariant-loop-f l = (l.f ≤ l.n) × ((length l.places ≡ length l.initial.places) × ((length l.fracs ≡ length l.initial.fracs) × Ran (Polynomial l.degree) l.table l.needed l.mask l.work l.stride l.t l.d l.i l.at l.share l.channels l.initial.out l.out l.moment l.f))

abbrev pub decreases-loop-f : goal.decreases-loop-f
decreases-loop-f l = l.n - l.f
