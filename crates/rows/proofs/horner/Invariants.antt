-- `rows::horner` is Horner over the rows. The loop's invariant: the rows from here give what all give. Assumes nothing.
use mathlib.Core.Path.{◌≡◌}
use lib.ListN.{drop}
use Rattle.rows.specs.Turns.{top}
use Rattle.rows.proofs.Laws.{horner_from}
use Rattle.rows.proofs.horner.Given as goal

abbrev pub invariant-loop-row : goal.invariant-loop-row
invariant-loop-row g l = horner_from l.x l.ys l.acc (drop l.row-index l.rows) ≡ top l.x l.ys l.rows
