-- `salvage::run::turns` is safe and ends: the part stays inside the buffer. Assumes nothing.
use Rattle.std.proofs.Common.{◌≡◌, length}
use Rattle.log_parts.specs.Turn.{Inside}
use Rattle.salvage.proofs.run.turns.Given as goal

abbrev pub invariant-loop : goal.invariant-loop
invariant-loop l = (length l.buf ≡ length l.initial.buf) × Inside l.r.part l.buf
