-- `questions::output_delay` meets its contract: a record that passes the test has a delay. Assumes nothing.
use mathlib.Core.Path.{ap, ◌∙◌}
use Rattle.error.specs.Refusals.{given}
use Rattle.kinds.proofs.Laws.{points_few, points_some}
use Rattle.state.proofs.Valid.{valid}
use Rattle.state.proofs.Checked.{check_ok, check_exit, check_pass}
use Rattle.questions.proofs.output_delay.Goals as goal

pub returns-in_err-check : goal.returns-in_err-check
returns-in_err-check c = check_exit c.args.s _ _ _ c.from_residual.ensures.1 c.in_err-check.ensures

pub delay_of-requires : goal.delay_of-requires
delay_of-requires c = let s = c.args.s in
    let v = valid s (check_ok s c.in_ok-check.field-0 c.in_ok-check.ensures).0 in
    rw c.points_in.ensures (points_some s.kind v.kind_holds_lem, points_few s.kind v.kind_holds_lem, v.current_ratio)

pub returns : goal.returns
returns c = check_pass c.args.s _ _ (check_ok c.args.s c.in_ok-check.field-0 c.in_ok-check.ensures).0
    (ap given (c.delay_of.ensures ∙ rw c.points_in.ensures))
