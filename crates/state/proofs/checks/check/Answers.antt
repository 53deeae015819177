-- `state::check` meets its contract. Assumes nothing.
use mathlib.Core.Path.{◌≡◌, refl, sym, ap, ◌∙◌}
use Rattle.error.proofs.Ladder.{pass, stop}
use Rattle.state.specs.Record.{is_state}
use Rattle.state.proofs.Checked.{check_pass}
use Rattle.state.proofs.checks.check.Goals as goal

pub returns-then-not-kind_holds : goal.returns-then-not-kind_holds
returns-then-not-kind_holds c = stop _ _ _ _ (sym c.kind_holds.ensures ∙ c.if-not-kind_holds.true)

pub returns-then-not-is_state : goal.returns-then-not-is_state
returns-then-not-is_state c = pass _ _ _ _ _ (sym c.kind_holds.ensures ∙ c.if-not-kind_holds.false) (
    stop _ _ _ _ (ap is_state (sym c.of-measured.ensures) ∙ sym c.is_state.ensures ∙ c.if-not-is_state.true))

pub returns : goal.returns
returns c = check_pass c.args.s _ _ (ap is_state (sym c.of-measured.ensures) ∙ sym c.is_state.ensures ∙ c.if-not-is_state.false) refl
