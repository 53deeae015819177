-- `table_sum::sum_of`: the entries that are left, added to the sum so far, make the sum of all. Assumes nothing.
use Rattle.table_sum.proofs.Sums.{Summed}
use Rattle.table_sum.proofs.sum_of.Given as goal

abbrev pub invariant-loop-entry : goal.invariant-loop-entry
invariant-loop-entry l = Summed l.table l.sum l.entry-index
