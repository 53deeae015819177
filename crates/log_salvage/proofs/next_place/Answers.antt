-- `log_salvage::next_place` meets its contract: each turn goes one byte on. Assumes nothing.
use native.Mathlib.Omega.{arith}
use mathlib.Core.Path.{◌∙◌}
use Rattle.log_salvage.proofs.Steps.{walked_next, walked_stop, walked_all}
use Rattle.log_salvage.proofs.next_place.Goals as goal

pub returns-then-not-is_passed : goal.returns-then-not-is_passed
returns-then-not-is_passed c = let l = c.loop-p in
    walked_stop _ _ _ l.p _ l.invariant c.is_passed.ensures c.if-not-is_passed.true

pub loop-p-preserved : goal.loop-p-preserved
loop-p-preserved c = let l = c.loop-p in
    walked_next _ _ _ l.p _ l.invariant c.loop-p-test.true c.is_passed.ensures c.if-not-is_passed.false

pub returns : goal.returns
returns c = let l = c.loop-p in
    c.max.ensures ∙ walked_all _ _ _ l.p l.invariant l.auto.p-end (omega arith)
