-- `kernel_frames::run_part` meets its contract. Assumes nothing.
use mathlib.Core.Path.{refl, ◌∙◌}
use native.Mathlib.Omega.{arith}
use Rattle.path.proofs.Places.{shift_small, last_small}
use Rattle.kernel_frames.proofs.Joined.{filled_ran, placed_fit, placed_as}
use Rattle.kernel_frames.proofs.run_part.Goals as goal

pub walk-walked-requires : goal.walk-walked-requires
walk-walked-requires c = record { shift_bound = omega (arith, c.shift_of-shift.ensures, c.last_of-last.ensures, shift_small c.args.degree, last_small c.args.degree c.args.needed c.requires.needed_bound.0); n_in_bounds = c.requires.n_in_bounds }

pub fill_all-requires : goal.fill_all-requires
fill_all-requires c = let w = c.walk-walked in
    let p = placed_as c.args.degree c.args.table.now c.args.needed _ _ _ _ _ _ _ _ c.shift_of-shift.ensures c.last_of-last.ensures (w.ensures.placed c.if-walked.true) in
    record { channels_bound = c.requires.needed_bound.1; stride_value = c.requires.stride_value; n_bound = c.requires.n_bound.0; n_in_bounds = (omega (arith, w.auto.places, c.requires.n_in_bounds.0), (omega (arith, w.auto.fracs, c.requires.n_in_bounds.1), placed_fit c.args.degree c.args.table.now c.args.needed _ _ _ _ _ _ _ c.requires.n_bound.1 p)) }

pub returns-then-walked : goal.returns-then-walked
returns-then-walked c = let w = c.walk-walked in
    let p = placed_as c.args.degree c.args.table.now c.args.needed _ _ _ _ _ _ _ _ c.shift_of-shift.ensures c.last_of-last.ensures (w.ensures.placed c.if-walked.true) in
    record { after = w.ensures.after; ran = c.fill_all.ensures ∙ filled_ran c.args.degree c.args.table.now c.args.needed _ _ _ _ _ c.args.mask c.args.work.now c.args.stride c.args.n c.args.at c.args.share c.args.channels c.args.out.now p }

pub run_all-requires : goal.run_all-requires
run_all-requires c = let p = c.requires in record { kind_value = (refl, p.table_len); needed_bound = p.needed_bound; stride_value = p.stride_value; n_bound = p.n_bound }
