-- `sincs::Windowed::value_no`: the row and the place of an entry, and the value that stands there. Assumes nothing.
use Rattle.std.proofs.Common.{refl, arith}
use Rattle.sincs.proofs.Bounds.{tests, row_inside, place_most, value_inside}
use Rattle.sincs.proofs.Windowed.value_no.Goals as goal

pub nonzero_rem-result : goal.nonzero_rem-result
nonzero_rem-result c = let p = (tests c.args.self.points c.args.self.factor c.args.self.cutoff c.args.self.holds).0 in
    omega (arith, p.points_some)

pub overflow_mul-result : goal.overflow_mul-result
overflow_mul-result c = let p = (tests c.args.self.points c.args.self.factor c.args.self.cutoff c.args.self.holds).0 in
    record { fits = omega (arith, place_most c.args.self.points c.args.self.factor c.args.j p c.requires, p.most) }

pub overflow_sub-result : goal.overflow_sub-result
overflow_sub-result c = let p = (tests c.args.self.points c.args.self.factor c.args.self.cutoff c.args.self.holds).0 in
    omega (arith, p.factor_some)

pub nonzero_div-result : goal.nonzero_div-result
nonzero_div-result c = let p = (tests c.args.self.points c.args.self.factor c.args.self.cutoff c.args.self.holds).0 in
    omega (arith, p.points_some)

pub overflow_sub-result-2 : goal.overflow_sub-result-2
overflow_sub-result-2 c = let p = (tests c.args.self.points c.args.self.factor c.args.self.cutoff c.args.self.holds).0 in
    omega (arith, row_inside c.args.self.points c.args.self.factor c.args.j p c.requires)

pub overflow_add-result : goal.overflow_add-result
overflow_add-result c = let p = (tests c.args.self.points c.args.self.factor c.args.self.cutoff c.args.self.holds).0 in
    record { fits = omega (arith, place_most c.args.self.points c.args.self.factor c.args.j p c.requires, row_inside c.args.self.points c.args.self.factor c.args.j p c.requires, p.most) }

pub returns : goal.returns
returns c = let p = (tests c.args.self.points c.args.self.factor c.args.self.cutoff c.args.self.holds).0 in
    (refl, value_inside c.args.self.points c.args.self.factor c.args.j p c.requires)
