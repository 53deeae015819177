-- `asynchro::apply_chunk` meets its contract: a rung of the ladder for each refusal, then the end of every call. Assumes nothing.
use mathlib.Core.Path.{ap, ◌∙◌}
use Rattle.error.proofs.Ladder.{pass, stop}
use Rattle.state.specs.Record.{max_input_of}
use Rattle.state.proofs.Checked.{check_ok, check_exit, check_pass, kind_of}
use Rattle.asynchro.proofs.apply_chunk.Goals as goal

pub returns-in_err-tested : goal.returns-in_err-tested
returns-in_err-tested c = check_exit c.args.s _ _ _ c.from_residual.ensures.1 c.in_err-tested.ensures

pub returns-then-not-n-s : goal.returns-then-not-n-s
returns-then-not-n-s c = check_pass c.args.s _ _ (check_ok c.args.s c.in_ok-tested.tested c.in_ok-tested.ensures).0 (stop _ _ _ _ c.if-not-n-s.true)

pub invariant_of-resized : goal.invariant_of-resized
invariant_of-resized c = let k = check_ok c.args.s c.in_ok-tested.tested c.in_ok-tested.ensures in
    record { kind_held = kind_of c.args.s k.0; most_is = c.in_ok-tested.tested.most_is ∙ ap max_input_of k.1 }

pub returns : goal.returns
returns c = check_pass c.args.s _ _ (check_ok c.args.s c.in_ok-tested.tested c.in_ok-tested.ensures).0 (pass _ _ _ _ _ c.if-not-n-s.false c.update_lengths.ensures)
