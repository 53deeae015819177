-- `path::look_sites` meets its contract. The invariant: the moment and the answer are those of the frames so far. Assumes nothing.
use mathlib.Core.Path.{ap, ◌∙◌}
use native.Mathlib.Omega.{arith}
use Rattle.path.specs.Sites.{reached}
use Rattle.path.proofs.Path.{along_none, along_next, along_done, reach_along}
use Rattle.path.proofs.look_sites.Goals as goal

pub loop-f-init : goal.loop-f-init
loop-f-init c = (omega arith, along_none _ _ _ _)

pub loop-f-preserved : goal.loop-f-preserved
loop-f-preserved c = let l = c.loop-f in
    let m = c.step_index-at in
    (omega arith, along_next _ _ _ _ l.at m.result l.reach _ l.f l.invariant.1 m.ensures (c.is_reached-reach.ensures ∙ ap reached c.site_of.ensures))

pub returns : goal.returns
returns c = let l = c.loop-f in
    let a = c.args in
    let r = along_done _ _ _ _ l.at l.reach l.f a.n l.invariant.1 (omega arith) in
    record { reach = r.0 ∙ reach_along a.kind a.needed a.t a.d a.i a.n; index = r.1 }
