-- `blocks::reading::fill` meets its contract: each turn reads a byte or more, or is the last. Assumes nothing.
use Rattle.std.proofs.Common.{◌-◌, ◌≤◌}
use Rattle.blocks.proofs.reading.fill.Given as goal

abbrev pub invariant-loop-count : goal.invariant-loop-count
invariant-loop-count l = l.count ≤ l.want

abbrev pub decreases-loop-count : goal.decreases-loop-count
decreases-loop-count l = l.want - l.count
