-- `sincs::place_of` follows the source, operation by operation, and the sine is asked for few enough steps. Assumes nothing.
use Rattle.std.proofs.Common.{T, sym, subst}
use Rattle.sincs.proofs.Bounds.{cutoff_sized, steps_small}
use Rattle.sincs.proofs.place_of.Goals as goal

pub returns-clause-value : goal.returns-clause-value
returns-clause-value c = rw (c.nearest_u64_to_f64-from.ensures, c.nearest_u64_to_f64-middle.ensures, c.nearest_u64_to_f64.ensures)

pub returns-clause-steps : goal.returns-clause-steps
returns-clause-steps c = let a = c.args in
    let q = c.requires in
    let z = cutoff_sized a.cutoff (subst T (sym c.well_formed.1.1.0.1) tt) q.cutoff_value in
    rw (c.nearest_u64_to_f64-from.ensures, c.nearest_u64_to_f64-middle.ensures, c.nearest_u64_to_f64.ensures)
    (steps_small a.total a.factor a.x a.cutoff q.x_bound.1 q.x_bound.0 q.factor_bound.0 q.factor_bound.1 z)
