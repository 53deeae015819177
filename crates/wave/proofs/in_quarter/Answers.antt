-- `wave::in_quarter` reads the entry, mirrored and negated by its quarter. Assumes nothing.
use Rattle.std.proofs.Common.{rules}
use Rattle.wave.proofs.Quarters.{first, second, third, fourth}
use Rattle.wave.proofs.in_quarter.Goals as goal

pub returns-in-0 : goal.returns-in-0
returns-in-0 c = first _ _ _ c.entry.ensures _ c.in-0.is c.plus.ensures

pub returns-in-1 : goal.returns-in-1
returns-in-1 c = second _ _ _ c.entry-in-1.ensures _ c.in-1.is c.minus.ensures

pub returns-in-2 : goal.returns-in-2
returns-in-2 c = third _ _ _ c.entry-in-2.ensures _ c.in-2.is c.minus-in-2.ensures

pub returns-in_default : goal.returns-in_default
returns-in_default c = fourth _ _ _ c.entry-in_default.ensures _ (search rules) (search rules) (search rules) c.plus-in_default.ensures
