-- `whole::ceil` meets its contract. Assumes nothing.
use mathlib.Core.Path.{◌∙◌}
use Rattle.whole.proofs.Signs.{put_back, floor_neg}
use Rattle.whole.proofs.ceil.Goals as goal

pub returns : goal.returns
returns c = put_back _ _ (c.floor.ensures ∙ floor_neg _)
