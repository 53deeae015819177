-- `path::shift_of` meets its contract. Assumes nothing.
use native.Mathlib.Omega.{arith}
use Rattle.asynchro_fast.proofs.Laws.{points_small, before_points}
use Rattle.path.proofs.shift_of.Goals as goal

pub overflow_mul-result : goal.overflow_mul-result
overflow_mul-result c = omega (arith, points_small c.args.degree)

pub overflow_sub-result : goal.overflow_sub-result
overflow_sub-result c = omega (arith, before_points c.args.degree)
