-- `forms::taken_by` meets its contract. Assumes nothing.
use mathlib.Core.Path.{refl}
use Rattle.forms.proofs.Marks.{takes_one, takes_none}
use Rattle.forms.proofs.taken_by.Goals as goal

pub returns-then-mark : goal.returns-then-mark
returns-then-mark c = takes_one c.args.mark _ refl c.if-mark.true

pub returns-else-mark : goal.returns-else-mark
returns-else-mark c = takes_none c.args.mark _ refl c.if-mark.false
