-- `decimals::numbers::power_of_ten` meets its contract: each turn is times ten. Assumes nothing.
use Rattle.std.proofs.Common.{◌≡◌, ◌-◌, ◌^◌, ◌≤◌}
use Rattle.decimals.proofs.numbers.power_of_ten.Given as goal

abbrev pub invariant-loop-i : goal.invariant-loop-i
invariant-loop-i l = (l._i ≤ l.k) × (l.power ≡ 10 ^ l._i)

abbrev pub decreases-loop-i : goal.decreases-loop-i
decreases-loop-i l = l.k - l._i
