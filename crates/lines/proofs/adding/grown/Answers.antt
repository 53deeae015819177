-- `lines::adding::grown` meets its contract. Assumes nothing.
use mathlib.Core.Path.{sym, subst}
use Rattle.lines.specs.Steps.{GrownBy}
use Rattle.lines.proofs.Grows.{grown_on, grown_over}
use Rattle.lines.proofs.adding.grown.Goals as goal

pub returns-in_err-next : goal.returns-in_err-next
returns-in_err-next c = let a = c.args in
    subst (GrownBy a.l a.n a.c a.step a.more a.at a.flat) (sym c.from_residual.ensures) (grown_over a.l a.n a.c a.step a.more a.at a.flat c.counted.result c.in_err-next.was c.counted.ensures)

pub returns : goal.returns
returns c = let a = c.args in
    grown_on a.l a.n a.c a.step a.more a.at a.flat c.counted.result _ c.moved.result c.exact_after.result c.stored_at.result c.placed.result
    c.in_ok-next.was c.counted.ensures c.moved.ensures c.exact_after.ensures c.stored_at.ensures c.placed.ensures
