-- `lent::work_length` meets its contract: a working area is small. Assumes nothing.
use Rattle.std.specs.Prelude.{is_ok}
use mathlib.Core.Path.{ap, sym, ◌∙◌}
use native.Mathlib.Omega.{arith}
use Rattle.state.proofs.Checked.{check_ok, check_says}
use Rattle.lent.proofs.Lengths.{work_none, work_all, work_fits}
use Rattle.shape.specs.Shape.{stride_of}
use Rattle.lent.proofs.work_length.Goals as goal

pub overflow_mul-result : goal.overflow_mul-result
overflow_mul-result c = let k = check_ok c.args.s c.in-Ok.tested c.in-Ok.ensures in
    omega (arith, work_fits c.args.s _ k.0 (c.stride_of.ensures ∙ ap stride_of (c.measured.ensures ∙ k.1)))

pub returns-in-Ok : goal.returns-in-Ok
returns-in-Ok c = let k = check_ok c.args.s c.in-Ok.tested c.in-Ok.ensures in
    work_all c.args.s _ k.0 (c.stride_of.ensures ∙ ap stride_of (c.measured.ensures ∙ k.1))

pub returns-in-Err : goal.returns-in-Err
returns-in-Err c = work_none c.args.s (sym (check_says c.args.s _ c.check.ensures) ∙ ap is_ok c.in-Err.is)
