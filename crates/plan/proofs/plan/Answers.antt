-- `plan::plan` meets its contract: the refusals in their order, then the record. Assumes nothing.
use mathlib.Core.Path.{◌≡◌, sym, ap, ◌∙◌}
use mathlib.Core.Bool.{Bool}
use Rattle.error.proofs.Ladder.{failed, passed}
use Rattle.state.specs.Record.{max_input_of, update_lengths}
use Rattle.state.proofs.Checked.{check_ok, check_exit, kind_of}
use Rattle.shape.specs.Shape.{shape_holds}
use Rattle.plan.specs.Plan.{reach_holds, index_after, planned}
use Rattle.plan.proofs.Planned.{shape_refused, reach_refused, block_made}
use Rattle.plan.proofs.plan.Goals as goal

pub returns-in_err-tested : goal.returns-in_err-tested
unfolding planned
returns-in_err-tested c = check_exit c.args.s _ _ _ c.from_residual.ensures.1 c.in_err-tested.ensures

pub returns-then-not-validate_buffers : goal.returns-then-not-validate_buffers
returns-then-not-validate_buffers c = let k = check_ok c.args.s c.in_ok-tested.tested c.in_ok-tested.ensures in
    let l = c.args.lent in
    shape_refused _ _ _ _ _ _ _ k.0 (ap (λ s. shape_holds s l.frames l.mask l.table l.input l.output l.work) (sym k.1) ∙ sym c.validate_buffers.ensures ∙ c.if-not-validate_buffers.true)

pub returns-then-not-seen : goal.returns-then-not-seen
returns-then-not-seen c = let k = check_ok c.args.s c.in_ok-tested.tested c.in_ok-tested.ensures in
    let l = c.args.lent in
    reach_refused _ _ _ _ _ _ _ k.0
    (ap (λ s. shape_holds s l.frames l.mask l.table l.input l.output l.work) (sym k.1) ∙ sym c.validate_buffers.ensures ∙ c.if-not-validate_buffers.false)
    (failed (c.look-seen.ensures.reach ∙ ap reach_holds k.1) c.if-not-seen.true)

pub after_block-requires : goal.after_block-requires
after_block-requires c = c.look-seen.ensures.index ∙ ap index_after (check_ok c.args.s c.in_ok-tested.tested c.in_ok-tested.ensures).1

pub invariant_of-after : goal.invariant_of-after
invariant_of-after c = let k = check_ok c.args.s c.in_ok-tested.tested c.in_ok-tested.ensures in
    rw c.after_block.ensures record { kind_held = kind_of c.args.s k.0; most_is = c.in_ok-tested.tested.most_is ∙ ap max_input_of k.1 }

pub returns : goal.returns
returns c = let k = check_ok c.args.s c.in_ok-tested.tested c.in_ok-tested.ensures in
    let l = c.args.lent in
    block_made _ _ _ _ _ _ _ _ k.0
    (ap (λ s. shape_holds s l.frames l.mask l.table l.input l.output l.work) (sym k.1) ∙ sym c.validate_buffers.ensures ∙ c.if-not-validate_buffers.false)
    (passed (c.look-seen.ensures.reach ∙ ap reach_holds k.1) c.if-not-seen.false)
    (c.update_lengths.ensures ∙ ap update_lengths c.after_block.ensures)
