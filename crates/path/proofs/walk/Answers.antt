-- `path::walk` meets its contract. The invariant: the lists have the places of the frames so far. Assumes nothing.
use native.Mathlib.Omega.{arith}
use Rattle.path.proofs.Walking.{walking_none, walking_next, walking_done}
use Rattle.path.proofs.walk.Goals as goal

pub loop-f-init : goal.loop-f-init
loop-f-init c = (omega arith, walking_none _ _ _ _ _ _)

pub put_place-reach-requires : goal.put_place-reach-requires
put_place-reach-requires c = let w = c.loop-f.invariant.1 in
    (omega (arith, w.long), omega (arith, w.wide))

pub loop-f-preserved : goal.loop-f-preserved
loop-f-preserved c = let l = c.loop-f in
    let m = c.step_index-at in
    let p = c.place_of-p in
    let u = c.put_place-reach in
    (omega arith, walking_next _ _ _ _ c.args.places.now c.args.fracs.now l.places _ l.fracs _ l.at m.result l.reach _ p.result l.f l.invariant.1 (omega arith) (omega arith) u.auto.places u.auto.fracs m.ensures p.ensures u.ensures.found u.ensures.starts u.ensures.parts)

pub shape_of-places : goal.shape_of-places
shape_of-places c = c.loop-f.invariant.1.long

pub shape_of-fracs : goal.shape_of-fracs
shape_of-fracs c = c.loop-f.invariant.1.wide

pub returns : goal.returns
returns c =
    let l = c.loop-f in
    let d = walking_done _ _ _ _ _ _ _ _ l.at l.reach l.f c.args.n l.invariant.1 (omega arith) in
    record { after = d.0; placed = d.1 }
