-- Each turn writes one byte or more.
use Rattle.std.proofs.Common.{length}
use Rattle.system.proofs.System.write_all.Given as goal

abbrev pub decreases-loop-rest : goal.decreases-loop-rest
decreases-loop-rest l = length l.rest
