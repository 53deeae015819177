-- `path::last_of` meets its contract. Assumes nothing.
use native.Mathlib.Omega.{arith}
use Rattle.asynchro_fast.proofs.Laws.{points_small}
use Rattle.path.proofs.last_of.Goals as goal

pub overflow_add-result : goal.overflow_add-result
overflow_add-result c = omega (arith, points_small c.args.degree)
