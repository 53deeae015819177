-- `log_writer::sum_of` meets its contract. Assumes nothing.
use mathlib.Core.Path.{ap}
use Prim.Native.Nat.{ℕ, ◌%◌}
use Rattle.log_records.specs.Records.{two_of}
use Rattle.log_writer.proofs.Written.{sums_joined}
use Rattle.log_writer.proofs.sum_of.Goals as goal

pub returns : goal.returns
returns c = ap (λ (s : ℕ). two_of (s % 65536)) (sums_joined c.args.head c.args.payload.now _ _ c.requires.0 c.total_of.ensures.0 c.total_of-2.ensures.0)
