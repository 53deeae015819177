-- `sincs::sinc`: 1 near 0, and the sine elsewhere. Assumes nothing.
use Rattle.std.proofs.Common.{sym, ◌∙◌}
use Rattle.sincs.proofs.Entries.{sinc_near, sinc_far}
use Rattle.sincs.proofs.sinc.Goals as goal

pub returns-then-is_tiny : goal.returns-then-is_tiny
returns-then-is_tiny c = sinc_near _ (sym c.is_tiny.ensures ∙ c.if-is_tiny.true)

pub sine_at-requires-clause-k_value : goal.sine_at-requires-clause-k_value
sine_at-requires-clause-k_value c = c.requires

pub returns : goal.returns
returns c = sinc_far _ _ (sym c.is_tiny.ensures ∙ c.if-is_tiny.false) c.sine_at.ensures
