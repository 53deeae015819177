-- `kernel_frames::run_kernel` meets its contract. The invariant: the output is that of the first f frames. Assumes nothing.
use native.Mathlib.Omega.{arith}
use mathlib.Core.Path.{refl, sym, ◌∙◌}
use Rattle.frames.proofs.Run.{ran_none, ran_done}
use Rattle.kernel_frames.proofs.Joined.{ran_more}
use Rattle.kernel_frames.proofs.run_kernel.Goals as goal

pub loop-f-init : goal.loop-f-init
loop-f-init c = (omega arith, (refl, (refl, ran_none _ _ _ _ _ _ _ _ _ _ _ _ _)))

pub overflow_add-at : goal.overflow_add-at
overflow_add-at c = omega (arith, c.requires.n_bound.0)

pub run_part-moment-requires : goal.run_part-moment-requires
run_part-moment-requires c = let p = c.requires in
    let l = c.loop-f in
    record { table_len = p.table_len; needed_bound = p.needed_bound; stride_value = (p.stride_value.0, p.stride_value.1 ∙ sym l.invariant.1.1.1.long); n_bound = (omega (arith, c.min-m.ensures, p.n_bound.0), p.n_bound.1); n_in_bounds = (omega (arith, c.min-m.ensures, p.in_bounds.0, l.invariant.1.0), omega (arith, c.min-m.ensures, p.in_bounds.1, l.invariant.1.1.0)) }

pub overflow_add-f : goal.overflow_add-f
overflow_add-f c = omega (arith, c.min-m.ensures)

pub loop-f-smaller : goal.loop-f-smaller
loop-f-smaller c = omega (arith, c.min-m.ensures)

pub loop-f-preserved : goal.loop-f-preserved
loop-f-preserved c = let l = c.loop-f in
    let m = c.min-m in
    let r = c.run_part-moment in
    (omega (arith, m.ensures), (r.auto.places ∙ l.invariant.1.0, (r.auto.fracs ∙ l.invariant.1.1.0, ran_more _ c.args.table.now _ _ c.args.work.now _ _ _ _ c.args.at c.args.share c.args.channels c.args.out.now l.out _ l.moment r.result l.f m.result l.invariant.1.1.1 (omega (arith, c.requires.stride_value.1)) (omega (arith, m.ensures, c.requires.n_bound.0)) r.auto.out r.ensures.after r.ensures.ran)))

pub shape_of-out : goal.shape_of-out
shape_of-out c = c.loop-f.invariant.1.1.1.long

pub shape_of-places : goal.shape_of-places
shape_of-places c = c.loop-f.invariant.1.0

pub shape_of-fracs : goal.shape_of-fracs
shape_of-fracs c = c.loop-f.invariant.1.1.0

pub returns : goal.returns
returns c = let l = c.loop-f in
    ran_done _ _ _ _ _ _ _ _ _ _ _ _ _ _ l.moment l.f c.args.n l.invariant.1.1.1 (omega arith)
