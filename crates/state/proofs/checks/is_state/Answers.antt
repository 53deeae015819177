-- `state::is_state` meets its contract. Assumes nothing.
use mathlib.Core.Path.{◌∙◌}
use Rattle.state.proofs.Checked.{check_says}
use Rattle.state.proofs.checks.is_state.Goals as goal

pub returns : goal.returns
returns c = c.is_ok.ensures.value ∙ check_says c.args.s _ c.check.ensures
