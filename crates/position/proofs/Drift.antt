-- Demand 3. "From construction or the last reset, over any calls, each on the record the last one left": the stored position is at most
-- (N+B)/2^37, plus n*(n+1)/2^46 for each block whose d is not zero, away from the exact one. In units of 2 ^ -1074. Assumes nothing.
use mathlib.Core.List.{List}
use Rattle.exact.specs.Whole.{Within}
use Rattle.state.specs.declared.State.{State}
use Rattle.position.specs.History.{Start, Call}
use Rattle.position.specs.Position.{opened, ledger, stored, bound}
use Rattle.position.proofs.Keeps.{start_index}
use Rattle.position.proofs.Ledgers.{opened_near, calls_near}

pub drift : (s : State) → Start s → (cs : List Call) → let l = ledger s (opened s) cs in Within (bound l) (stored l) l.account.exactly
drift s start cs = (calls_near s (opened s) cs (opened_near s (start_index s start))).near
