-- `plan::t_ratio_increment` meets its contract. Assumes nothing.
use Rattle.plan.proofs.Planned.{increment_none, increment_some}
use Rattle.plan.proofs.t_ratio_increment.Goals as goal

pub returns-then-s-eq0 : goal.returns-then-s-eq0
returns-then-s-eq0 c = increment_none c.args.s c.if-s-eq0.true

pub returns : goal.returns
returns c = increment_some c.args.s _ _ _ c.if-s-eq0.false c.step_now.ensures c.step_then.ensures
    c.float_of-n.ensures
