-- `written::writing::write_pieces` meets its contract: each turn has a sample or more. Assumes nothing.
use Rattle.std.proofs.Common.{◌≡◌, ◌-◌, ◌≤◌}
use Rattle.written.proofs.writing.write_pieces.Given as goal

abbrev pub invariant-loop-w : goal.invariant-loop-w
invariant-loop-w l = (l.w.first ≡ l.first) × (l.first ≤ l.w.last) × (l.w.last ≤ l.most)

abbrev pub decreases-loop-w : goal.decreases-loop-w
decreases-loop-w l = l.most - l.w.last
