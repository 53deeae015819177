-- `plan::after_block` meets its contract. Assumes nothing.
use Rattle.plan.proofs.Planned.{after_is}
use Rattle.plan.proofs.after_block.Goals as goal

pub returns : goal.returns
returns c = after_is c.args.s _ _ c.requires c.float_of.ensures
