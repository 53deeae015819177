-- `window_points::make_window`: refusal 11, refusal 8, or the window. Assumes nothing.
use Rattle.std.proofs.Common.{ℕ, leb, ap, ◌∙◌, arith, leb-true, sym}
use Rattle.error.proofs.Ladder.{both}
use Rattle.window_points.specs.Points.{point_at}
use Rattle.window_points.specs.Filled.{listed}
use Rattle.window_points.proofs.Ends.{ends_argument, ends_shape, ends_done}
use Rattle.window_points.proofs.make_window.Goals as goal

pub returns-then-not-in_range : goal.returns-then-not-in_range
returns-then-not-in_range c = ends_argument _ c.args.npoints c.args.window.now _ (sym c.in_range.ensures ∙ c.if-not-in_range.true)

pub returns-then-window-npoints : goal.returns-then-window-npoints
returns-then-window-npoints c = ends_shape _ c.args.npoints c.args.window.now _ (sym c.in_range.ensures ∙ c.if-not-in_range.false) c.if-window-npoints.true

pub fill-requires : goal.fill-requires
fill-requires c = let n = c.args.npoints in
    let r = both (leb 2 n) (leb n 65536) (sym c.in_range.ensures ∙ c.if-not-in_range.false) in
    omega (arith, leb-true n 65536 r.1, c.if-window-npoints.false)

pub returns : goal.returns
returns c = let l = c.if-window-npoints.false in
    ends_done _ c.args.npoints c.args.window.now _ _ (sym c.in_range.ensures ∙ c.if-not-in_range.false) l
    (c.fill.ensures ∙ ap (λ (n : ℕ). listed (λ i. point_at c.args.windowfunc i n) n) l)
