-- Document 02, R-2: "After construction, every setting, every block and reset they equal the bits of a fresh division", of the records of a history, by `steps_are`. Assumes nothing.
use mathlib.Core.List.{List}
use mathlib.Core.Path.{◌≡◌, ap}
use lib.Ieee.{binary64, to_bits}
use Rattle.state.specs.declared.State.{State}
use Rattle.steps.specs.Steps.{step_of}
use Rattle.position.specs.History.{Start, Call}
use Rattle.position.specs.Position.{opened, ledger}
use Rattle.position.proofs.Lasting.{lasting}
use Rattle.theorems.proofs.Steps.{steps_are}

-- every record of a history passes the test, so after any calls, accepted or refused, the stored steps are the divisions ..
pub steps_stay : (s : State) → Start s → (cs : List Call) → let t = (ledger s (opened s) cs).state in (t.now ≡ step_of t.current) × (t.then ≡ step_of t.target)
steps_stay s start cs = steps_are (ledger s (opened s) cs).state (lasting s start cs)

-- .. and have their bits
pub steps_stay_bits : (s : State) → Start s → (cs : List Call) → let t = (ledger s (opened s) cs).state in
    (to_bits binary64 t.now ≡ to_bits binary64 (step_of t.current)) × (to_bits binary64 t.then ≡ to_bits binary64 (step_of t.target))
steps_stay_bits s start cs = let f = steps_stay s start cs in (ap (to_bits binary64) f.0, ap (to_bits binary64) f.1)
