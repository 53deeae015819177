-- `area::move_all` meets its contract: each turn makes one part more anew. Assumes nothing.
use Prim.Native.Nat.{◌-◌}
use native.Mathlib.Omega.{arith}
use lib.ListN.{length}
use Rattle.area.proofs.Parts.{room}
use Rattle.area.proofs.Parted.{parted_none, parted_next, parted_done}
use Rattle.area.proofs.move_all.Goals as goal

pub loop-c-init : goal.loop-c-init
loop-c-init c = (omega arith, parted_none _ _ _)

pub move_part-requires : goal.move_part-requires
move_part-requires c = let l = c.loop-c in
    omega (arith, room l.c c.args.channels c.args.stride (length l.work) (omega arith) (omega arith))

pub loop-c-preserved : goal.loop-c-preserved
loop-c-preserved c = let l = c.loop-c in
    let f = c.move_part in (
      omega arith,
      parted_next _ c.args.stride c.args.work.now l.work _ l.c l.invariant.1
          (room l.c c.args.channels c.args.stride _ (omega arith) (omega arith)) f.auto.work f.ensures,
    )

pub shape_of-work : goal.shape_of-work
shape_of-work c = c.loop-c.invariant.1.long

pub returns : goal.returns
returns c = parted_done _ _ _ _ c.loop-c.c c.args.channels c.loop-c.invariant.1 (omega arith)
