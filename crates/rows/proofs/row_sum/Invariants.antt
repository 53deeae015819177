-- `rows::row_sum` is the row's sum. The loop's invariant: what the two iterators have left gives what the whole run gives. Assumes nothing.
use mathlib.Core.Path.{◌≡◌}
use Rattle.rows.specs.Rows.{row_sum}
use Rattle.rows.proofs.Laws.{sum_from}
use Rattle.rows.proofs.row_sum.Given as goal

abbrev pub invariant-loop-c : goal.invariant-loop-c
invariant-loop-c l = sum_from l.sum l.c-iterator.a.rest.now l.c-iterator.b.rest.now ≡ row_sum l.row l.ys
