-- `sincs::Windowed::sum`: each turn adds one value more. Assumes nothing.
use Rattle.std.proofs.Common.{◌≡◌, ◌*◌, arith}
use Rattle.sincs.proofs.Entries.{sum_none, sum_next}
use Rattle.sincs.proofs.Windowed.sum.Goals as goal

pub loop-x-init : goal.loop-x-init
loop-x-init c = sum_none _

pub loop-x-preserved : goal.loop-x-preserved
loop-x-preserved c = let l = c.loop-x in
    sum_next _ l.x _ _ l.invariant c.value-sum.ensures

pub returns : goal.returns
returns c = let l = c.loop-x in
    let s = c.args.self in
    let e : l.x ≡ s.points * s.factor = omega arith in
    rw (c.nearest_u64_to_f64.ensures, l.invariant, e)
