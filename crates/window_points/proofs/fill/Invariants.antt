-- `window_points::fill`: each turn stores one point more. Assumes nothing.
use Rattle.std.proofs.Common.{length}
use Rattle.window_points.specs.Points.{point_at}
use Rattle.window_points.proofs.Fills.{Filling}
use Rattle.window_points.proofs.fill.Given as goal

abbrev pub invariant-loop-i : goal.invariant-loop-i
invariant-loop-i l = Filling (λ i. point_at l.windowfunc i (length l.initial.window)) l.initial.window l.window l.i
