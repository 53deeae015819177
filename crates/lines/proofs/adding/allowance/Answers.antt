-- `lines::adding::allowance` meets its contract. Assumes nothing.
use native.Mathlib.Omega.{arith}
use Rattle.lines.proofs.Grows.{allowed_is}
use Rattle.lines.proofs.adding.allowance.Goals as goal

pub returns : goal.returns
returns c = allowed_is c.args.n _ _ _ _ c.args.flat (omega arith) c.of_u64.ensures c.shift_left.ensures c.ramp_of.ensures c.add.ensures
