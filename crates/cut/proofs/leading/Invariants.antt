-- `cut::leading` meets its contract. The invariant: the moment and the count are those of the frames so far. Assumes nothing.
use Rattle.cut.proofs.Front.{Led}
use Rattle.cut.proofs.leading.Given as goal

abbrev pub invariant-loop-k : goal.invariant-loop-k
invariant-loop-k l = Led l.t l.d l.i l.most l.n l.at l.k
