-- `schedule::entries::name_of` meets its contract. Assumes nothing.
use Rattle.schedule.proofs.Lines.{name_at, name_ramp, name_mask, name_none}
use Rattle.schedule.proofs.entries.name_of.Goals as goal

pub returns-then-same : goal.returns-then-same
returns-then-same c = name_at _ _ c.same.ensures c.if-same.true

pub returns-then-same-2 : goal.returns-then-same-2
returns-then-same-2 c = name_ramp _ _ c.same.ensures c.if-same.false _ c.same-2.ensures c.if-same-2.true

pub returns-then-same-3 : goal.returns-then-same-3
returns-then-same-3 c = name_mask _ _ c.same.ensures c.if-same.false _ c.same-2.ensures c.if-same-2.false _ c.same-3.ensures c.if-same-3.true

pub returns : goal.returns
returns c = name_none _ _ c.same.ensures c.if-same.false _ c.same-2.ensures c.if-same-2.false _ c.same-3.ensures c.if-same-3.false
