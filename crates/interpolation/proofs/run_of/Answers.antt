-- `interpolation::run_of` meets its contract. Assumes nothing.
use Rattle.std.proofs.Common.{◌≡◌, true, false, T, sym, subst, arith, ◌∙◌}
use Rattle.interpolation.specs.Grid.{in_range}
use Rattle.interpolation.proofs.Answers.{grid-refused, grid-given, made_all}
use Rattle.interpolation.proofs.Range.{in_range_one}
use Rattle.interpolation.proofs.Starts.{start_cast, start_is}
use Rattle.interpolation.proofs.run_of.Goals as goal

pub returns-then-not-in_range : goal.returns-then-not-in_range
returns-then-not-in_range g c = grid-refused _ _ _ _ _ (sym c.in_range.ensures ∙ c.if-not-in_range.true)

pub truncating_f64_to_u64-parts-requires : goal.truncating_f64_to_u64-parts-requires
truncating_f64_to_u64-parts-requires g c =
    let r = in_range_one c.args.least c.args.t c.args.factor (omega (arith, c.requires.0)) (sym c.in_range.ensures ∙ c.if-not-in_range.false) in
    let w = start_cast c.args.t c.args.factor (subst T (sym c.well_formed.0.1) tt) r false c.inner_of-i.result c.floor.result c.inner_of-i.ensures c.floor.ensures in
    record { lower_bound = w.0; upper_bound = w.1 }

pub place-requires : goal.place-requires
place-requires g c =
    let r = in_range_one c.args.least c.args.t c.args.factor (omega (arith, c.requires.0)) (sym c.in_range.ensures ∙ c.if-not-in_range.false) in
    let s = start_is c.args.t c.args.factor (subst T (sym c.well_formed.0.1) tt) r false c.inner_of-i.result c.floor.result c.inner_of-i.ensures c.floor.ensures
    _ c.truncating_f64_to_u64-parts.ensures in
    (s.1, omega (arith, c.requires.1))

pub returns : goal.returns
returns g c =
    let n : in_range c.args.least c.args.t c.args.factor ≡ true = sym c.in_range.ensures ∙ c.if-not-in_range.false in
    let r = in_range_one c.args.least c.args.t c.args.factor (omega (arith, c.requires.0)) n in
    let s = start_is c.args.t c.args.factor (subst T (sym c.well_formed.0.1) tt) r false c.inner_of-i.result c.floor.result c.inner_of-i.ensures c.floor.ensures
    _ c.truncating_f64_to_u64-parts.ensures in
    grid-given _ _ _ _ _ _ _ n s.0 (made_all c.args.factor c.args.ahead g.row.N _ c.loop-k.points c.loop-k.k (omega arith) c.loop-k.invariant.1)
