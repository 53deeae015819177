-- `whole::round` meets its contract. Assumes nothing.
use mathlib.Core.Path.{◌∙◌}
use Rattle.whole.proofs.Signs.{size_of, put_back, round_neg}
use Rattle.whole.proofs.round.Goals as goal

pub near-requires : goal.near-requires
near-requires c = size_of _ c.if-x.true

pub returns-then-x : goal.returns-then-x
returns-then-x c = put_back _ _ (c.near.ensures ∙ round_neg _)
