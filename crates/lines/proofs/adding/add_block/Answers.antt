-- `lines::adding::add_block` meets its contract. Assumes nothing.
use mathlib.Core.Path.{refl, ap, ◌∙◌}
use Rattle.lines.specs.Lines.{going_of}
use Rattle.lines.proofs.Grows.{block_float, block_grown}
use Rattle.lines.proofs.adding.add_block.Goals as goal

pub returns-then-is_other : goal.returns-then-is_other
returns-then-is_other c = let a = c.args in
    block_float a.l a.n a.c a.t a.d a.index c.of_double-step.result c.of_double-more.result c.of_double-at.result _ _ _
    c.of_double-step.ensures c.of_double-more.ensures c.of_double-at.ensures c.is_other.ensures c.is_other-2.ensures c.is_other-3.ensures c.if-is_other.true

pub returns : goal.returns
returns c = let a = c.args in
    ap going_of c.ok_or.ensures.value
    ∙ block_grown a.l a.n a.c a.t a.d a.index c.of_double-step.result c.of_double-more.result c.of_double-at.result _ _ _
    c.of_double-step.ensures c.of_double-more.ensures c.of_double-at.ensures c.is_other.ensures c.is_other-2.ensures c.is_other-3.ensures _ c.grown.result c.if-is_other.false refl c.grown.ensures
