-- `plan::look` meets its contract. Assumes nothing.
use Rattle.state.proofs.Valid.{valid}
use Rattle.plan.proofs.Planned.{look_is}
use Rattle.plan.proofs.look.Goals as goal

pub look-requires : goal.look-requires
look-requires c = let v = valid _ c.args.tested.passes in (v.kind_holds_lem, v.input_few)

pub returns : goal.returns
returns c =
    let l = look_is c.args.tested.state _ _ _ _ c.step_now-t.ensures c.t_ratio_increment-d.ensures c.look.ensures.reach c.look.ensures.index in
    record { reach = l.0; index = l.1 }
