-- `interpolation::get_nearest_time` meets its contract. Assumes nothing.
use Rattle.std.proofs.Common.{◌≡◌, true, T, refl, lit≤, sym, subst, ◌∙◌}
use Rattle.interpolation.specs.Grid.{in_range}
use Rattle.interpolation.proofs.Answers.{points-next, grid-refused, grid-given}
use Rattle.interpolation.proofs.Starts.{start_cast, start_is}
use Rattle.interpolation.proofs.get_nearest_time.Goals as goal

pub returns-then-not-in_range : goal.returns-then-not-in_range
returns-then-not-in_range c = grid-refused _ _ _ _ _ (sym c.in_range.ensures ∙ c.if-not-in_range.true)

pub truncating_f64_to_u64-parts-requires : goal.truncating_f64_to_u64-parts-requires
truncating_f64_to_u64-parts-requires c =
    let w = start_cast c.args.t c.args.factor (subst T (sym c.well_formed.0.1) tt) (sym c.in_range.ensures ∙ c.if-not-in_range.false) true c.inner_of-i.result c.round.result c.inner_of-i.ensures c.round.ensures in
    record { lower_bound = w.0; upper_bound = w.1 }

pub place-requires : goal.place-requires
place-requires c =
    let s = start_is c.args.t c.args.factor (subst T (sym c.well_formed.0.1) tt) (sym c.in_range.ensures ∙ c.if-not-in_range.false) true c.inner_of-i.result c.round.result c.inner_of-i.ensures c.round.ensures
    _ c.truncating_f64_to_u64-parts.ensures in
    (s.1, lit≤ tt)

pub returns : goal.returns
returns c =
    let r : in_range 1 c.args.t c.args.factor ≡ true = sym c.in_range.ensures ∙ c.if-not-in_range.false in
    let s = start_is c.args.t c.args.factor (subst T (sym c.well_formed.0.1) tt) r true c.inner_of-i.result c.round.result c.inner_of-i.ensures c.round.ensures
    _ c.truncating_f64_to_u64-parts.ensures in
    grid-given _ _ _ _ _ _ _ r s.0 (points-next c.place.ensures refl)
