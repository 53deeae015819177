-- `table::build::build` is safe: it hands on the table that was asked for, or refusal 11. Assumes nothing.
use mathlib.Core.Path.{◌∙◌}
use native.Mathlib.Omega.{arith}
use lib.ListN.{take, length-take}
use Rattle.table.proofs.Tables.{done_is, refused_is}
use Rattle.table.proofs.build.build.Goals as goal

pub slice_bounds-table-end-2 : goal.slice_bounds-table-end-2
slice_bounds-table-end-2 c = omega (arith, length-take c.entries_of-n.result c.args.area.now, c.entries_of-n.ensures.0, c.requires)

pub tell_refused-requires : goal.tell_refused-requires
tell_refused-requires c = let w = c.args.w in
    let old = take c.entries_of-n.result c.args.area.now in
    c.number.ensures
    ∙ refused_is w.points w.factor w.cutoff w.window old _ _ _ c.in-Err.is c.make_sincs.ensures
    (omega (arith, length-take c.entries_of-n.result c.args.area.now, c.entries_of-n.ensures.0, c.entries_of-n.ensures.1, c.requires))

pub keep-requires : goal.keep-requires
keep-requires c = let w = c.args.w in
    done_is w.points w.factor w.cutoff w.window (take c.entries_of-n.result c.args.area.now) _ _ c.in-Ok.is c.make_sincs.ensures
