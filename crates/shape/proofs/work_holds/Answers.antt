-- `shape::work_holds` meets its contract: a working area is small. Assumes nothing.
use mathlib.Core.Path.{ap, ◌∙◌}
use Prim.Native.Nat.{ℕ, ◌*◌}
use native.Mathlib.Omega.{arith}
use lib.Dec.{eqb}
use Rattle.shape.specs.Shape.{stride_of}
use Rattle.shape.proofs.Shape.{work_small}
use Rattle.shape.proofs.work_holds.Goals as goal

pub overflow_mul-result : goal.overflow_mul-result
overflow_mul-result c = let t = c.args.tested in
    omega (arith, work_small t.state t.passes, ap (λ (n : ℕ). t.state.channels * n) (c.stride_of.ensures ∙ ap stride_of c.measured.ensures))

pub returns : goal.returns
returns c = let a = c.args in
    ap (λ (n : ℕ). eqb a.work (a.tested.state.channels * n)) (c.stride_of.ensures ∙ ap stride_of c.measured.ensures)
