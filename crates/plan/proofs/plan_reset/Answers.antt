-- `plan::plan_reset` meets its contract: the refusals in their order, then the record. Assumes nothing.
use mathlib.Core.Path.{sym, ap, ◌∙◌}
use Rattle.error.proofs.Ladder.{pass, stop}
use Rattle.state.specs.Record.{max_input_of, update_lengths}
use Rattle.state.proofs.Checked.{check_ok, check_exit, check_pass, kind_of}
use Rattle.shape.specs.Shape.{work_holds}
use Rattle.plan.specs.Plan.{resetting}
use Rattle.plan.proofs.plan_reset.Goals as goal

pub returns-in_err-tested : goal.returns-in_err-tested
unfolding resetting
returns-in_err-tested c = check_exit c.args.s _ _ _ c.from_residual.ensures.1 c.in_err-tested.ensures

pub returns-then-not-work_holds : goal.returns-then-not-work_holds
unfolding resetting
returns-then-not-work_holds c = let k = check_ok c.args.s c.in_ok-tested.tested c.in_ok-tested.ensures in
    check_pass c.args.s _ _ k.0 (stop _ _ _ _ (ap (λ s. work_holds s c.args.work) (sym k.1) ∙ sym c.work_holds.ensures ∙ c.if-not-work_holds.true))

pub invariant_of-restored : goal.invariant_of-restored
invariant_of-restored c = let k = check_ok c.args.s c.in_ok-tested.tested c.in_ok-tested.ensures in
    rw c.restored_state.ensures record { kind_held = kind_of c.args.s k.0; most_is = c.in_ok-tested.tested.most_is ∙ ap max_input_of k.1 }

pub returns : goal.returns
unfolding resetting
returns c = let k = check_ok c.args.s c.in_ok-tested.tested c.in_ok-tested.ensures in
    check_pass c.args.s _ _ k.0 (
    pass _ _ _ _ _ (ap (λ s. work_holds s c.args.work) (sym k.1) ∙ sym c.work_holds.ensures ∙ c.if-not-work_holds.false) (
    c.update_lengths.ensures ∙ ap update_lengths c.restored_state.ensures))
