-- `frames::write_frame` meets its contract. The invariant: the first c channels have the frame. Assumes nothing.
use Prim.Native.Nat.{◌≤◌, ◌+◌, ◌*◌}
use native.Mathlib.Omega.{arith}
use lib.ListN.{length}
use Rattle.area.proofs.Parts.{room}
use Rattle.area.proofs.Parted.{parted_none, parted_done, lent_long}
use Rattle.frames.specs.Turns.{one_frame}
use Rattle.path.proofs.Sites.{lies_same}
use Rattle.frames.proofs.Run.{frame_long, on_next}
use Rattle.frames.proofs.write_frame.Goals as goal
use Rattle.frames.proofs.write_frame.Goals.{In-loop-c}

-- there is room for this turn's part of each area
rooms : (c : In-loop-c)
    → (c.loop-c.c * c.args.share + c.args.share ≤ length c.args.out.now)
    × (c.loop-c.c * c.args.stride + c.args.stride ≤ length c.args.work.now)
rooms c =
    (room c.loop-c.c c.args.channels c.args.share _ c.loop-c-test.true (omega arith), room c.loop-c.c c.args.channels c.args.stride _ c.loop-c-test.true (omega arith))

pub loop-c-init : goal.loop-c-init
loop-c-init c = (omega arith, parted_none _ _ _)

pub overflow_mul-a : goal.overflow_mul-a
overflow_mul-a c = omega (arith, rooms c, c.loop-c.invariant.1.long)

pub overflow_mul-b : goal.overflow_mul-b
overflow_mul-b c = omega (arith, rooms c, c.loop-c.invariant.1.long)

pub overflow_add-a : goal.overflow_add-a
overflow_add-a c = omega (arith, rooms (goal.at.overflow_add-a c).In-loop-c, c.loop-c.invariant.1.long)

pub offset_bounds-out-a : goal.offset_bounds-out-a
offset_bounds-out-a c = omega (arith, rooms (goal.at.offset_bounds-out-a c).In-loop-c, c.loop-c.invariant.1.long)

pub slice_bounds-write_channel-count : goal.slice_bounds-write_channel-count
slice_bounds-write_channel-count c = omega (arith, rooms (goal.at.slice_bounds-write_channel-count c).In-loop-c, c.loop-c.invariant.1.long)

pub slice_bounds-write_channel-start : goal.slice_bounds-write_channel-start
slice_bounds-write_channel-start c = omega (arith, rooms (goal.at.slice_bounds-write_channel-start c).In-loop-c, c.loop-c.invariant.1.long)

pub slice_bounds-write_channel-end : goal.slice_bounds-write_channel-end
slice_bounds-write_channel-end c = omega (arith, rooms (goal.at.slice_bounds-write_channel-end c).In-loop-c, c.loop-c.invariant.1.long)

pub overflow_add-b : goal.overflow_add-b
overflow_add-b c = omega (arith, rooms (goal.at.overflow_add-b c).In-loop-c, c.loop-c.invariant.1.long)

pub offset_bounds-work-b : goal.offset_bounds-work-b
offset_bounds-work-b c = omega (arith, rooms (goal.at.offset_bounds-work-b c).In-loop-c, c.loop-c.invariant.1.long)

pub slice_bounds-write_channel-count-in-loop-c : goal.slice_bounds-write_channel-count-in-loop-c
slice_bounds-write_channel-count-in-loop-c c = omega (arith, rooms (goal.at.slice_bounds-write_channel-count-in-loop-c c).In-loop-c, c.loop-c.invariant.1.long)

pub slice_bounds-write_channel-start-in-loop-c : goal.slice_bounds-write_channel-start-in-loop-c
slice_bounds-write_channel-start-in-loop-c c = omega (arith, rooms (goal.at.slice_bounds-write_channel-start-in-loop-c c).In-loop-c, c.loop-c.invariant.1.long)

pub slice_bounds-write_channel-end-in-loop-c : goal.slice_bounds-write_channel-end-in-loop-c
slice_bounds-write_channel-end-in-loop-c c = omega (arith, rooms (goal.at.slice_bounds-write_channel-end-in-loop-c c).In-loop-c, c.loop-c.invariant.1.long)

pub write_channel-requires : goal.write_channel-requires
write_channel-requires c = let l = c.loop-c in
    let r = rooms (goal.at.write_channel-requires c).In-loop-c in
    let h : l.c * c.args.share + c.args.share ≤ length l.out = omega (arith, r, l.invariant.1.long) in
    record { k_in_bounds = omega (arith, lent_long (l.c * c.args.share) c.args.share l.out h, c.requires.k_lt_share.0); lies = lies_same c.args.site _ _ _ (lent_long (l.c * c.args.stride) c.args.stride c.args.work.now r.1) c.requires.k_lt_share.1 }

pub loop-c-preserved : goal.loop-c-preserved
loop-c-preserved c = let l = c.loop-c in
    let f = c.write_channel in
    let r = rooms (goal.at.loop-c-preserved c).In-loop-c in
    (omega arith, on_next _ c.args.work.now c.args.stride (one_frame c.args.table.now c.args.site c.args.k) c.args.share (frame_long c.args.table.now c.args.site c.args.k c.args.share) c.args.out.now l.out _ l.c _ l.invariant.1 r.0 c.is_on.ensures f.ensures)

pub shape_of-out : goal.shape_of-out
shape_of-out c = c.loop-c.invariant.1.long

pub returns : goal.returns
returns c = parted_done _ _ _ _ c.loop-c.c c.args.channels c.loop-c.invariant.1 (omega arith)
