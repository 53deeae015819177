-- `window_points::fill`: each turn stores one point more. Assumes nothing.
use Rattle.std.proofs.Common.{rules}
use Rattle.window_points.proofs.Fills.{filling_none, filling_next, filling_long, filling_done}
use Rattle.window_points.proofs.fill.Goals as goal

pub loop-i-init : goal.loop-i-init
loop-i-init c = filling_none _ _

pub bounds-window-i : goal.bounds-window-i
bounds-window-i c = let l = c.loop-i in
    rw (filling_long _ _ _ _ l.invariant) (search rules)

pub loop-i-preserved : goal.loop-i-preserved
loop-i-preserved c = let l = c.loop-i in
    filling_next _ _ l.window l.i _ l.invariant (search rules) c.point_at.ensures

pub shape_of-window : goal.shape_of-window
shape_of-window c = filling_long _ _ _ _ c.loop-i.invariant

pub returns : goal.returns
returns c = filling_done _ _ _ _ c.loop-i.invariant (search rules)
