-- `printer::areas::put_samples` meets its contract: each turn puts one sample more. Assumes nothing.
use native.Mathlib.Omega.{arith}
use Rattle.printer.proofs.Samples.{sample_next}
use Rattle.printer.proofs.areas.put_samples.Goals as goal

pub loop-k-preserved : goal.loop-k-preserved
loop-k-preserved c = sample_next _ _ c.args.xs.now _ _ _ _ _ c.loop-k.invariant (omega arith) (omega arith) c.bits_of.ensures c.put_hex.ensures
