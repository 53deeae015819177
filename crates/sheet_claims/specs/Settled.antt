-- What is claimed of the log of a history: from history to bytes to line. Definitions only.
use Rattle.std.specs.Prelude.{true, List, [], ◌∷◌, ◌≡◌}
use Rattle.state.specs.declared.State.{State}
use Rattle.position.specs.History.{Start, Call}
use Rattle.position.specs.Position.{opened, ledger}
use Rattle.lines.specs.declared.End.TheVariants as end
use Rattle.lines.specs.Lines.{Figures, on, is_inside}
use Rattle.sheets.specs.Sheet.{nothing, plus, none, row}
use Rattle.sheet_claims.specs.Live.{live_line, IsLedger}
use Rattle.sheet_claims.specs.Logs.{Reading, sheet_over, log_of}

-- a sheet of one line, which the end of its log ended
abbrev pub one_row : Figures → Reading
one_row f = record { page = record { closed = plus nothing f; total = plus nothing f; current = none }; rows = row f end.Open ∷ [] }

-- the figures along the live calls are those that the sheet reads from the bytes, and those of demand 3's ledger; their distance is inside the bound
pub record Settled (s : State) (start : Start s) (cs : List Call) : Type 0 where
  pub figures : Figures
  pub live : live_line s cs ≡ on figures
  pub told : sheet_over (log_of s start cs ∷ []) ≡ one_row figures
  pub theirs : IsLedger figures (ledger s (opened s) cs)
  pub inside_it : is_inside figures ≡ true
