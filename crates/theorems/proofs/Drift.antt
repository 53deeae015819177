-- Demand 3, restated from crates/position: over any history of calls the stored position stays within the bound of the exact one. Assumes nothing.
-- In whole numbers of 2^-1074; a pair (a, b) of natural numbers stands for a - b, and Within e v w says |v - w| ≤ e.
use mathlib.Core.List.{List}
use Prim.Native.Nat.{◌≤◌}
use lib.IntN.{nat_abs, ◌-ℤ◌}
use Rattle.exact.specs.Whole.{Within}
use Rattle.exact.specs.Integers.{int}
use Rattle.state.specs.declared.State.{State}
use Rattle.position.specs.History.{Start, Call}
use Rattle.position.specs.Position.{opened, ledger, stored, bound}
use Rattle.position.proofs.Drift.{drift}
use Rattle.position.proofs.Signed.{drift_int}

pub no_drift_beyond : (s : State) → Start s → (cs : List Call) → Within (bound (ledger s (opened s) cs)) (stored (ledger s (opened s) cs)) (ledger s (opened s) cs).account.exactly
no_drift_beyond = drift

-- the same over signed whole numbers
pub no_drift_beyond_int : (s : State) → Start s → (cs : List Call)
    → nat_abs (int (stored (ledger s (opened s) cs)) -ℤ int (ledger s (opened s) cs).account.exactly) ≤ bound (ledger s (opened s) cs)
no_drift_beyond_int = drift_int
