-- `interp_answer` tests the number of samples once, for every degree. Assumes nothing.
use mathlib.Core.Path.{sym, ap, ◌∙◌}
use borrow.Author.Tests.{eq-eqb, ne_eqb}
use Rattle.error.proofs.Ladder.{pass, stop}
use Rattle.error.specs.Refusals.{given}
use Rattle.asynchro_fast.proofs.interp_answer.Goals as goal

pub returns-then-ys-nbr_points : goal.returns-then-ys-nbr_points
returns-then-ys-nbr_points c = pass _ _ _ _ _ (eq-eqb _ _ (c.if-ys-nbr_points.true ∙ c.nbr_points.ensures)) (ap given c.interp.ensures)

pub returns-else-ys-nbr_points : goal.returns-else-ys-nbr_points
returns-else-ys-nbr_points c = stop _ _ _ _ (ne_eqb _ _ (λ e. c.if-ys-nbr_points.false (e ∙ sym c.nbr_points.ensures)))
