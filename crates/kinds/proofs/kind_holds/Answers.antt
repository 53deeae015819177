-- `kinds::kind_holds` meets its contract. Assumes nothing.
use mathlib.Core.Path.{sym, ap, ◌∙◌}
use Rattle.kinds.specs.Kinds.{kind_holds}
use Rattle.kinds.proofs.kind_holds.Goals as goal

pub returns-in-Sinc : goal.returns-in-Sinc
returns-in-Sinc c = c.sinc_holds.ensures ∙ sym (ap kind_holds c.in-Sinc.is)
