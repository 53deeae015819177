-- `wave::answered`: refusal 11, or the line. Assumes nothing.
use Rattle.std.proofs.Common.{ap, sym, ◌∙◌}
use Rattle.error.specs.Refusals.{given}
use Rattle.error.proofs.Ladder.{pass, stop}
use Rattle.wave.proofs.answered.Goals as goal

pub returns-then-not-is_small : goal.returns-then-not-is_small
returns-then-not-is_small c = stop _ _ _ _ (sym c.is_small.ensures ∙ c.if-not-is_small.true)

pub line_at-requires : goal.line_at-requires
line_at-requires c = record { k_value = sym c.is_small.ensures ∙ c.if-not-is_small.false; ahead_bound = c.requires }

pub returns : goal.returns
returns c = pass _ _ _ _ _ (sym c.is_small.ensures ∙ c.if-not-is_small.false) (ap given c.line_at.ensures)
