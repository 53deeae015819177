-- From history to bytes to line: the sheet over the log of a history has one row, whose figures are those of demand 3's ledger and whose distance is inside its bound. Assumes nothing.
use mathlib.Core.List.{List}
use mathlib.Core.Path.{◌≡◌}
use Prim.Native.Nat.{◌^◌, ◌<◌}
use Rattle.state.specs.declared.State.{State}
use Rattle.position.specs.History.{Start, Call}
use Rattle.position.specs.Position.{opened, ledger}
use Rattle.lines.specs.Lines.{Figures, on}
use Rattle.sheet_claims.specs.Live.{live_line}
use Rattle.sheet_claims.specs.Settled.{Settled}
use Rattle.sheet_claims.proofs.Ledgers.{live_ledger, live_inside}
use Rattle.sheet_claims.proofs.GoesOn.{live_goes_on}
use Rattle.sheet_claims.proofs.Histories.{sheet_line}

-- where the line goes on
pub settled_by : (s : State) (start : Start s) (cs : List Call) (f : Figures) → live_line s cs ≡ on f → Settled s start cs
settled_by s start cs f e = record { figures = f; live = e; told = sheet_line s start cs f e; theirs = live_ledger s start cs f e; inside_it = live_inside s start cs f e }

-- which it does in fewer than 2^46 blocks
pub settled : (s : State) (start : Start s) (cs : List Call) → (ledger s (opened s) cs).account.blocks < 2 ^ 46 → Settled s start cs
settled s start cs h = let g = live_goes_on s start cs h in settled_by s start cs g.0 g.1
