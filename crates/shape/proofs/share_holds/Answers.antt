-- `shape::share_holds` meets its contract: there is a channel. Assumes nothing.
use Rattle.state.proofs.Valid.{valid}
use Rattle.shape.proofs.share_holds.Goals as goal

pub nonzero_rem-result : goal.nonzero_rem-result
nonzero_rem-result c = (valid _ c.args.tested.passes).channels_some

pub nonzero_div-result : goal.nonzero_div-result
nonzero_div-result c = (valid _ c.args.tested.passes).channels_some
