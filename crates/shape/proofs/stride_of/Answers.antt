-- `shape::stride_of` meets its contract: a maximum and the points are small. Assumes nothing.
use native.Mathlib.Omega.{arith}
use Rattle.kinds.proofs.Laws.{points_few}
use Rattle.shape.proofs.Shape.{stride_small, stride_is}
use Rattle.shape.proofs.stride_of.Goals as goal

pub overflow_mul-result : goal.overflow_mul-result
overflow_mul-result c = let m = c.args.measured in
    omega (arith, c.points_in.ensures, points_few m.state.kind m.kind_held)

pub overflow_add-result : goal.overflow_add-result
overflow_add-result c = let m = c.args.measured in
    omega (arith, stride_small m.state m.kind_held, stride_is m.state _ _ _ m.most_is c.unwrap_or.ensures c.points_in.ensures)

pub returns : goal.returns
returns c = let m = c.args.measured in
    stride_is m.state _ _ _ m.most_is c.unwrap_or.ensures c.points_in.ensures
