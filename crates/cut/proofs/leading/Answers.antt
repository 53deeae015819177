-- `cut::leading` meets its contract. The invariant: the moment and the count are those of the frames so far. Assumes nothing.
use Rattle.std.proofs.Common.{arith}
use Rattle.cut.proofs.Front.{led_none, led_next, led_over, led_all}
use Rattle.cut.proofs.leading.Goals as goal

pub loop-k-init : goal.loop-k-init
loop-k-init c = led_none _ _ _ _ _ _ c.step_index-at.ensures

pub loop-k-preserved : goal.loop-k-preserved
loop-k-preserved c = let l = c.loop-k in
    led_next _ _ _ _ _ l.at c.step_index-at-in-loop-k.result l.k l.invariant c.if-not-at-most.false c.step_index-at-in-loop-k.ensures

pub returns-then-not-at-most : goal.returns-then-not-at-most
returns-then-not-at-most c = let l = c.loop-k in
    let d = led_over _ _ _ _ _ l.at l.k l.invariant c.loop-k-test.true c.if-not-at-most.true in
    record { count = d.0; index = d.1 }

pub returns : goal.returns
returns c = let l = c.loop-k in
    let d = led_all _ _ _ _ _ l.at l.k l.invariant (omega (arith, c.loop-k-test.false, l.auto.k-end)) in
    record { count = d.0; index = d.1 }
