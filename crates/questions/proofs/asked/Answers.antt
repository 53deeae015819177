-- `questions::asked` meets its contract: refused for a record that fails the test. Assumes nothing.
use Rattle.std.proofs.Common.{refl}
use Rattle.state.proofs.Checked.{check_ok, check_exit, check_pass}
use Rattle.questions.proofs.asked.Goals as goal

pub returns-in_err-check : goal.returns-in_err-check
returns-in_err-check g c = check_exit c.args.s _ _ _ c.from_residual.ensures.1 c.in_err-check.ensures

pub returns : goal.returns
returns g c = check_pass c.args.s _ _ (check_ok c.args.s c.in_ok-check.field-0 c.in_ok-check.ensures).0 refl
