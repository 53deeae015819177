-- `blocks::ahead::put_held` meets its contract: each turn places one sample. Assumes nothing.
use native.Mathlib.Omega.{arith}
use Rattle.blocks.proofs.Held.{puts_none, puts_next, puts_done, first_place}
use borrow.Author.Rules.{rules}
use Rattle.blocks.proofs.ahead.put_held.Goals as goal

pub loop-c-init : goal.loop-c-init
loop-c-init c = (omega arith, puts_none _ _ _)

pub overflow_mul-area : goal.overflow_mul-area
overflow_mul-area c = search (rules, first_place _ _ _ c.loop-c-test.true c.requires.0)

pub offset_bounds-area-c : goal.offset_bounds-area-c
offset_bounds-area-c c = search (rules, first_place _ _ _ c.loop-c-test.true c.requires.0)

pub bounds-area-c : goal.bounds-area-c
bounds-area-c c = search (rules, first_place _ _ _ c.loop-c-test.true c.requires.0)

pub loop-c-preserved : goal.loop-c-preserved
loop-c-preserved c = (omega arith, puts_next _ _ _ _ _ _ c.loop-c.invariant.1 (omega arith))

pub shape_of-area : goal.shape_of-area
shape_of-area c = c.loop-c.invariant.1.long

pub returns : goal.returns
returns c = puts_done _ _ _ _ _ _ c.loop-c.invariant.1 (omega arith)
