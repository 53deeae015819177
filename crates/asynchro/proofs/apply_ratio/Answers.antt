-- `asynchro::apply_ratio` meets its contract: a rung of the ladder for each refusal, then the end of every call. Assumes nothing.
use mathlib.Core.Bool.{true, false}
use mathlib.Core.Path.{sym, ap, ◌∙◌}
use Rattle.error.proofs.Ladder.{pass, stop}
use Rattle.state.proofs.Checked.{check_ok, check_exit, check_pass, kind_of}
use Rattle.state.specs.Record.{max_input_of, update_lengths}
use Rattle.asynchro.proofs.Ratio.{ratio_set}
use Rattle.asynchro.proofs.apply_ratio.Goals as goal
use Rattle.asynchro.proofs.apply_ratio.Goals.{then-not-ramp, else-not-ramp}

pub returns-in_err-tested : goal.returns-in_err-tested
returns-in_err-tested c = check_exit c.args.s _ _ _ c.from_residual.ensures.1 c.in_err-tested.ensures

pub returns-then-not-accepted : goal.returns-then-not-accepted
returns-then-not-accepted c = check_pass c.args.s _ _ (check_ok c.args.s c.in_ok-tested.tested c.in_ok-tested.ensures).0 (
    stop _ _ _ _ (c.if-not-accepted.true))

pub returns-then-not-is_ratio : goal.returns-then-not-is_ratio
returns-then-not-is_ratio c = check_pass c.args.s _ _ (check_ok c.args.s c.in_ok-tested.tested c.in_ok-tested.ensures).0 (
    pass _ _ _ _ _ (c.if-not-accepted.false) (
    stop _ _ _ _ (sym c.is_ratio.ensures ∙ c.if-not-is_ratio.true)))

pub invariant_of-set : goal.invariant_of-set
invariant_of-set c = let k = check_ok c.args.s c.in_ok-tested.tested c.in_ok-tested.ensures in
    let h = kind_of c.args.s k.0 in
    let e = c.in_ok-tested.tested.most_is ∙ ap max_input_of k.1 in
    elim c.if-not-ramp.branch [ then-not-ramp w ↦ rw w.next-is record { kind_held = h; most_is = e } | else-not-ramp w ↦ rw w.next-is record { kind_held = h; most_is = e } ]

pub returns : goal.returns
returns c = let a = c.args in
    check_pass c.args.s _ _ (check_ok c.args.s c.in_ok-tested.tested c.in_ok-tested.ensures).0 (
    pass _ _ _ _ _ (c.if-not-accepted.false) (
    pass _ _ _ _ _ (sym c.is_ratio.ensures ∙ c.if-not-is_ratio.false) (
    c.update_lengths.ensures ∙ ap update_lengths (elim c.if-not-ramp.branch [
      | then-not-ramp w ↦ w.next-is ∙ ratio_set a.s a.r _ a.ramp false c.step_of-step.ensures w.if-not-ramp.true
      | else-not-ramp w ↦ w.next-is ∙ ratio_set a.s a.r _ a.ramp true c.step_of-step.ensures w.if-not-ramp.false
    ]))))
