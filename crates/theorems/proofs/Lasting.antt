-- No call of a history is refused 11 or 10: what a construction, a setting, a block or a reset leaves passes the StateRecord test. Other refusals can come: bench case 2 is refused 9 after an accepted setting.
-- Restated from crates/position. Assumes nothing.
use mathlib.Core.Bool.{true}
use mathlib.Core.List.{List}
use mathlib.Core.Path.{◌≡◌}
use Rattle.state.specs.declared.State.{State}
use Rattle.state.specs.Record.{is_state}
use Rattle.position.specs.History.{Start, Call}
use Rattle.position.specs.Position.{opened, ledger}
use Rattle.position.proofs.Lasting.{lasting}

pub every_record_passes : (s : State) → Start s → (cs : List Call) → is_state (ledger s (opened s) cs).state ≡ true
every_record_passes = lasting
