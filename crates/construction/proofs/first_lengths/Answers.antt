-- `construction::first_lengths` meets its contract: refusal 6, then the fill. Assumes nothing.
use mathlib.Core.Path.{sym, ap, ◌∙◌}
use Rattle.std.proofs.lemmas.Result.{err_from_is_err_and}
use Rattle.error.proofs.Ladder.{pass, stop}
use Rattle.construction.specs.Construction.{filled, first_lengths}
use Rattle.construction.proofs.first_lengths.Goals as goal

pub returns-then-not-maxima_hold : goal.returns-then-not-maxima_hold
unfolding first_lengths
returns-then-not-maxima_hold c = stop _ _ _ _ (sym c.maxima_hold.ensures ∙ c.if-not-maxima_hold.true)

pub returns-in_err-sized : goal.returns-in_err-sized
unfolding first_lengths
returns-in_err-sized c =
    let p = err_from_is_err_and c.from_residual.result c.from_residual.ensures.1 in
    rw (p.1, p.2) (pass _ _ _ _ _ (sym c.maxima_hold.ensures ∙ c.if-not-maxima_hold.false) (ap filled c.in_err-sized.ensures))

pub returns : goal.returns
unfolding first_lengths
returns c = pass _ _ _ _ _ (sym c.maxima_hold.ensures ∙ c.if-not-maxima_hold.false) (ap filled c.in_ok-sized.ensures)
