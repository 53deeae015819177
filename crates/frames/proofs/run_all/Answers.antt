-- `frames::run_all` meets its contract. The invariant: the output is that of the first f frames. Assumes nothing.
use native.Mathlib.Omega.{arith}
use mathlib.Core.Path.{◌∙◌, sym}
use Rattle.path.proofs.Sites.{site_lies}
use Rattle.frames.proofs.Run.{ran_none, ran_next, ran_done}
use Rattle.frames.proofs.run_all.Goals as goal

pub loop-f-init : goal.loop-f-init
loop-f-init c = (omega arith, ran_none _ _ _ _ _ _ _ _ _ _ _ _ _)

pub write_frame-requires : goal.write_frame-requires
write_frame-requires c = let l = c.loop-f in
    let k = c.requires.kind_value in
    record { channels_bound = c.requires.needed_bound.1; stride_value = (c.requires.stride_value.0, c.requires.stride_value.1 ∙ sym l.invariant.1.long); k_lt_share = (omega arith, site_lies c.args.kind k.0 c.args.needed _ _ _ _ c.requires.n_bound.1 k.1 c.site_of-site.ensures) }

pub loop-f-preserved : goal.loop-f-preserved
loop-f-preserved c = let l = c.loop-f in
    let f = c.write_frame in
    let p = c.site_of-site in
    let m = c.step_index-moment in
    (omega arith, ran_next _ c.args.table.now _ _ c.args.work.now _ _ _ _ c.args.at c.args.share c.args.channels c.args.out.now l.out _ l.moment m.result p.result l.f l.invariant.1 (omega arith) (omega arith) f.auto.out m.ensures p.ensures f.ensures)

pub shape_of-out : goal.shape_of-out
shape_of-out c = c.loop-f.invariant.1.long

pub returns : goal.returns
returns c = ran_done _ _ _ _ _ _ _ _ _ _ _ _ _ _ c.loop-f.moment c.loop-f.f c.args.n c.loop-f.invariant.1 (omega arith)
