-- `sinc_value::get_sinc_interpolated` is the sum. The loop's invariant: the products below place k are summed. Assumes nothing.
use Prim.Native.Nat.{◌-◌, ◌≤◌}
use lib.ListN.{length}
use Rattle.sinc_value.proofs.Sums.{Summed}
use Rattle.sinc_value.proofs.get_sinc_interpolated.Given as goal

abbrev pub invariant-loop-k : goal.invariant-loop-k
invariant-loop-k l = (l.k ≤ length l.row) × Summed l.wave l.row l.k l.sum

abbrev pub decreases-loop-k : goal.decreases-loop-k
decreases-loop-k l = length l.row - l.k
