-- `plan::restored_state` meets its contract. Assumes nothing.
use Rattle.plan.proofs.Planned.{restored_is}
use Rattle.plan.proofs.restored_state.Goals as goal

pub returns : goal.returns
returns c = restored_is c.args.s _ _ _ c.step_of-step.ensures c.points_in.ensures c.start_index.ensures
