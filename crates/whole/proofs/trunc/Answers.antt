-- `whole::trunc` meets its contract. Assumes nothing.
use mathlib.Core.Path.{◌∙◌}
use Rattle.whole.proofs.Signs.{size_of, put_back, trunc_neg}
use Rattle.whole.proofs.trunc.Goals as goal

pub part-requires : goal.part-requires
part-requires c = size_of _ c.if-x.true

pub returns-then-x : goal.returns-then-x
returns-then-x c = put_back _ _ (c.part.ensures ∙ trunc_neg _)
