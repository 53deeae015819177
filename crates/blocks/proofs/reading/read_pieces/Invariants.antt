-- `blocks::reading::read_pieces` meets its contract: each turn reads a sample or more, or finds the end. Assumes nothing.
use Rattle.std.proofs.Common.{◌+◌, ◌-◌, cond}
use Rattle.blocks.proofs.Pieces.{Reads}
use Rattle.blocks.proofs.reading.read_pieces.Given as goal

abbrev pub invariant-loop-p : goal.invariant-loop-p
invariant-loop-p l = Reads l.channels l.share l.most l.done l.over l.initial.area l.area l.p.samples l.p.rest l.p.ended

abbrev pub decreases-loop-p : goal.decreases-loop-p
decreases-loop-p l = l.most - l.p.samples + cond l.p.ended 0 1
