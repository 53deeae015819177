-- `blocks::ahead::put_held` meets its contract: each turn places one sample. Assumes nothing.
use Prim.Native.Nat.{◌≤◌, ◌-◌}
use Rattle.blocks.proofs.Held.{Puts}
use Rattle.blocks.proofs.ahead.put_held.Given as goal

abbrev pub invariant-loop-c : goal.invariant-loop-c
invariant-loop-c l = (l.c ≤ l.channels) × Puts l.share l.held l.initial.area l.area l.c

abbrev pub decreases-loop-c : goal.decreases-loop-c
decreases-loop-c l = l.channels - l.c
