-- `whole::over` meets its contract. Assumes nothing.
use lib.Dec.{T}
use mathlib.Core.Bool.{true, false}
use mathlib.Core.Path.{sym, subst}
use Rattle.whole.proofs.Steps.{over_made}
use Rattle.whole.proofs.over.Goals as goal

pub returns-then-y-x : goal.returns-then-y-x
returns-then-y-x c = over_made _ _ (subst T (sym c.well_formed.0.1) tt) c.requires c.part-y.ensures true c.if-y-x.true

pub returns : goal.returns
returns c = over_made _ _ (subst T (sym c.well_formed.0.1) tt) c.requires c.part-y.ensures false c.if-y-x.false
