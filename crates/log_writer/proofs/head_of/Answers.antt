-- `log_writer::head_of` meets its contract. Assumes nothing.
use native.Mathlib.Omega.{arith}
use Rattle.log_writer.proofs.Written.{kind_most}
use Rattle.log_writer.proofs.head_of.Goals as goal

pub overflow_cast-result : goal.overflow_cast-result
overflow_cast-result c = record { fits = omega (arith, kind_most c.args.kind c.requires.0) }
