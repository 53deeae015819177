-- `log_salvage::next_place` meets its contract: each turn goes one byte on. Assumes nothing.
use Rattle.log_salvage.proofs.Steps.{Walked}
use Rattle.log_salvage.proofs.next_place.Given as goal

abbrev pub invariant-loop-p : goal.invariant-loop-p
invariant-loop-p l = Walked l.last l.part l.at l.p
