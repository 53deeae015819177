-- `interpolation::inner_of` meets its contract. Assumes nothing.
use Rattle.std.proofs.Common.{true, false, T, pos, sym, subst}
use lib.Ieee.{fin, lt, le}
use Rattle.whole.specs.declared.Parts.{Parts}
use Rattle.interpolation.proofs.Starts.{cast, inner_is}
use Rattle.interpolation.proofs.inner_of.Goals as goal

pub truncating_f64_to_i64-index-requires : goal.truncating_f64_to_i64-index-requires
truncating_f64_to_i64-index-requires c = let w = cast c.args.t c.args.factor (subst T (sym c.well_formed.0.1) tt) c.requires in
    let e = sym c.split-s.ensures in
    record {
      lower_bound = subst (λ (s : Parts). T (le (fin true 1 (pos 63)) s.floor)) e w.0;
      upper_bound = subst (λ (s : Parts). T (lt s.floor (fin false 1 (pos 63)))) e w.1;
    }

pub returns : goal.returns
returns c = inner_is c.args.t c.args.factor (subst T (sym c.well_formed.0.1) tt) c.requires _ _ _
    c.split-s.ensures c.truncating_f64_to_i64-index.ensures c.nearest_u64_to_f64.ensures
