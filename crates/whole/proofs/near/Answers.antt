-- `whole::near` meets its contract. Assumes nothing.
use lib.Dec.{T}
use mathlib.Core.Bool.{true, false}
use mathlib.Core.Path.{sym, subst}
use Rattle.whole.proofs.Steps.{near_made}
use Rattle.whole.proofs.near.Goals as goal

pub returns-then-x-y : goal.returns-then-x-y
returns-then-x-y c = near_made _ _ (subst T (sym c.well_formed.0.1) tt) c.requires c.part-y.ensures true c.if-x-y.true

pub returns : goal.returns
returns c = near_made _ _ (subst T (sym c.well_formed.0.1) tt) c.requires c.part-y.ensures false c.if-x-y.false
