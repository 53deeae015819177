-- `path::span_of` meets its contract. Assumes nothing.
use native.Mathlib.Omega.{arith}
use Rattle.path.proofs.Spans.{count_held}
use Rattle.path.proofs.span_of.Goals as goal

pub int_to_float-least : goal.int_to_float-least
int_to_float-least c = count_held _ (omega (arith, c.requires))

pub int_to_float-result : goal.int_to_float-result
int_to_float-result c = count_held _ (omega (arith, c.requires))
