-- `printer::areas::put_samples` meets its contract: each turn puts one sample more. Assumes nothing.
use Prim.Native.Nat.{◌*◌}
use Rattle.text.specs.Areas.{samples_text}
use Rattle.printer.proofs.Pastes.{Pasted}
use Rattle.printer.proofs.areas.put_samples.Given as goal

abbrev pub invariant-loop-k : goal.invariant-loop-k
invariant-loop-k l = Pasted l.initial.out l.at (samples_text l.xs) l.out (16 * l.k)
