-- `sincs::Windowed::fill`: each turn stores one entry more. Assumes nothing.
use Rattle.std.proofs.Common.{ap, ◌∙◌, rules}
use Rattle.window_points.specs.Filled.{listed}
use Rattle.window_points.proofs.Fills.{filling_none, filling_next, filling_long, filling_done}
use Rattle.sincs.specs.Table.{entry_at}
use Rattle.sincs.proofs.Entries.{entry_is}
use Rattle.sincs.proofs.Windowed.fill.Goals as goal

pub loop-j-init : goal.loop-j-init
loop-j-init c = filling_none _ _

pub bounds-sincs-j : goal.bounds-sincs-j
bounds-sincs-j c = let l = c.loop-j in
    rw (filling_long _ _ _ _ l.invariant) (search rules)

pub loop-j-preserved : goal.loop-j-preserved
loop-j-preserved c = let l = c.loop-j in
    let a = c.args.self in
    filling_next _ _ l.sincs l.j _ l.invariant (search rules)
    (entry_is a.points a.factor l.j a.cutoff a.windowfunc _ _ _ c.value_no.ensures.0 c.value.ensures c.sum-sum.ensures)

pub shape_of-sincs : goal.shape_of-sincs
shape_of-sincs c = filling_long _ _ _ _ c.loop-j.invariant

pub returns : goal.returns
returns c = filling_done _ _ _ _ c.loop-j.invariant (search rules) ∙ ap (listed (entry_at c.args.self.points c.args.self.factor c.args.self.cutoff c.args.self.windowfunc)) c.requires
