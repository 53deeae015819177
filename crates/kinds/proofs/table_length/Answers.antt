-- `kinds::table_length` meets its contract: a table is small. Assumes nothing.
use native.Mathlib.Omega.{arith}
use Rattle.kinds.proofs.Laws.{table_sinc}
use Rattle.kinds.proofs.table_length.Goals as goal

pub overflow_mul-result : goal.overflow_mul-result
overflow_mul-result c = omega (arith, (table_sinc _ _ _ _ c.in-Sinc.is c.requires).0)

pub returns-in-Sinc : goal.returns-in-Sinc
returns-in-Sinc c = (table_sinc _ _ _ _ c.in-Sinc.is c.requires).1
