-- `process::write` meets its contract: refusal 8's test gives each step the room that it asks. Assumes nothing.
use mathlib.Core.Path.{◌≡◌, refl, ◌∙◌}
use Prim.Native.Nat.{◌/◌}
use native.Mathlib.Omega.{arith}
use lib.ListN.{length}
use Rattle.state.proofs.Checked.{kind_of}
use Rattle.state.proofs.Valid.{valid}
use Rattle.kinds.proofs.Laws.{points_few}
use Rattle.shape.specs.Shape.{stride_of}
use Rattle.shape.proofs.Shape.{stride_share, shaped, move_asks, load_asks, run_asks}
use Rattle.process.proofs.Written.{written}
use Rattle.process.proofs.write.Goals as goal
use Rattle.process.proofs.write.Goals.{Start}

-- the working area's share is its stride
strided : (c : Start) → length c.args.work.now / c.args.s.channels ≡ stride_of c.args.s
strided c = stride_share c.args.s _ _ (valid c.args.s c.requires.s_value).channels_some (shaped _ _ _ _ _ _ _ c.requires.s_value c.requires.work_value).long refl

pub nonzero_div-stride : goal.nonzero_div-stride
nonzero_div-stride c = (valid _ c.requires.s_value).channels_some

pub overflow_mul-l2 : goal.overflow_mul-l2
overflow_mul-l2 c = omega (arith, c.points_in-l2.ensures, points_few c.args.s.kind (kind_of c.args.s c.requires.s_value))

pub nonzero_div-share_in : goal.nonzero_div-share_in
nonzero_div-share_in c = (valid _ c.requires.s_value).channels_some

pub nonzero_div-share_out : goal.nonzero_div-share_out
nonzero_div-share_out c = (valid _ c.requires.s_value).channels_some

pub move_all-requires : goal.move_all-requires
move_all-requires c =
    let m = move_asks _ _ _ _ _ _ (shaped _ _ _ _ _ _ _ c.requires.s_value c.requires.work_value) _ _ (strided (goal.at.move_all-requires c).Start) c.points_in-l2.ensures _ refl in
    record { stride_value = m.0; l2_bound = m.1 }

pub load_all-requires : goal.load_all-requires
load_all-requires c =
    let l = load_asks _ _ _ _ _ _ (shaped _ _ _ _ _ _ _ c.requires.s_value c.requires.work_value) _ _ (strided (goal.at.load_all-requires c).Start) c.points_in-l2.ensures _ _ _
    c.move_all.auto.work c.requires.at_value.0 c.frames_to_read-read.ensures in
    record { stride_value = l.0; read_bound = l.1 }

pub run_all-requires : goal.run_all-requires
run_all-requires c =
    let r = run_asks _ _ _ _ _ _ (shaped _ _ _ _ _ _ _ c.requires.s_value c.requires.work_value) _ _ (strided (goal.at.run_all-requires c).Start) c.points_in-l2.ensures _ _
    (c.load_all.auto.work ∙ c.move_all.auto.work) c.requires.at_value.1 in
    record { kind_value = r.0; needed_bound = r.1.0; stride_value = r.1.1.0; n_bound = r.1.1.1 }

pub returns : goal.returns
returns c =
    let w = written c.args.s _ _ c.args.table.now c.args.input.now _ c.args.work.now _ c.args.output.now _ _ _ _ _ _ _ _ (strided (goal.at.returns c).Start) c.points_in-l2.ensures c.frames_to_read-read.ensures
    c.move_all.ensures c.load_all.ensures c.step_now-t.ensures c.t_ratio_increment-d.ensures c.run_all.ensures in
    record { worked = w.0; written = w.1 }
