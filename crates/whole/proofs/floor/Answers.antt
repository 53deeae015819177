-- `whole::floor` meets its contract. Assumes nothing.
use mathlib.Core.Path.{◌∙◌}
use Rattle.whole.proofs.Signs.{size_of, put_back, ceil_neg, floor_size}
use Rattle.whole.proofs.floor.Goals as goal

pub over-requires : goal.over-requires
over-requires c = size_of _ c.if-x.true

pub returns-then-x : goal.returns-then-x
returns-then-x c = put_back _ _ (c.over.ensures ∙ ceil_neg _)

pub returns : goal.returns
returns c = c.part.ensures ∙ floor_size _ c.if-x.false
