-- `windows::calculate_cutoff` meets its contract. Assumes nothing.
use Rattle.std.proofs.Common.{ap, sym, ◌∙◌}
use Rattle.error.specs.Refusals.{given}
use Rattle.error.proofs.Ladder.{pass, stop}
use Rattle.windows.specs.Cutoff.{cutoff_of}
use Rattle.windows.proofs.calculate_cutoff.Goals as goal

pub returns-then-not-in_range : goal.returns-then-not-in_range
returns-then-not-in_range c = stop _ _ _ _ (sym c.in_range.ensures ∙ c.if-not-in_range.true)

pub returns : goal.returns
unfolding cutoff_of
returns c = pass _ _ _ _ _ (sym c.in_range.ensures ∙ c.if-not-in_range.false)
    (ap given (cc))
