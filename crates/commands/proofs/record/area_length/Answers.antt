-- `commands::record::area_length` is safe: its product fits. Assumes nothing.
use native.Mathlib.Omega.{arith}
use Rattle.commands.proofs.Lengths.{small_product}
use Rattle.commands.proofs.record.area_length.Goals as goal

pub overflow_mul-n-2 : goal.overflow_mul-n-2
overflow_mul-n-2 c = record { fits = small_product _ _ (omega arith) (omega arith) }
