-- Demand 3 as a distance of integers: in units of 2 ^ -1074, the stored position less the exact one is at most the bound in size. Assumes nothing.
use mathlib.Core.List.{List}
use Prim.Native.Nat.{◌≤◌}
use lib.IntN.{nat_abs, ◌-ℤ◌}
use Rattle.exact.specs.Integers.{int}
use Rattle.exact.proofs.Integers.{minus_is, within_int}
use Rattle.state.specs.declared.State.{State}
use Rattle.position.specs.History.{Start, Call}
use Rattle.position.specs.Position.{opened, ledger, stored, bound}
use Rattle.position.proofs.Drift.{drift}

pub drift_int : (s : State) → Start s → (cs : List Call) → let l = ledger s (opened s) cs in nat_abs (int (stored l) -ℤ int l.account.exactly) ≤ bound l
drift_int s start cs =
    let l = ledger s (opened s) cs in
    let v = stored l in
    let w = l.account.exactly in
    within_int (bound l) v w (int v) (int w) (minus_is v.0 v.1) (minus_is w.0 w.1) (drift s start cs)
