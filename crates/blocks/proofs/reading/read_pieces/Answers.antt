-- `blocks::reading::read_pieces` meets its contract: each turn reads a sample or more, or finds the end. Assumes nothing.
use Rattle.std.proofs.Common.{arith}
use Rattle.blocks.proofs.Pieces.{reads_none, reads_next, reads_less, reads_over}
use Rattle.blocks.proofs.reading.read_pieces.Goals as goal

pub loop-p-init : goal.loop-p-init
loop-p-init c = reads_none _ _ _ _ _ _ (omega arith)

pub loop-p-preserved : goal.loop-p-preserved
loop-p-preserved c = reads_next _ _ _ _ _ _ _ _ _ _ c.loop-p.invariant _ _ _ _ _ c.loop-p-test.true (omega arith) c.read_piece-p.ensures

pub loop-p-smaller : goal.loop-p-smaller
loop-p-smaller c = reads_less _ _ _ _ _ _ _ _ _ _ c.loop-p.invariant _ _ _ _ _ c.loop-p-test.true (omega arith) c.read_piece-p.ensures

pub returns : goal.returns
returns c = reads_over _ _ _ _ _ _ _ _ _ _ c.loop-p.invariant c.loop-p-test.false
