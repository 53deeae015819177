-- Document 01, "Refusal numbers": "Questions about a state: 10 only." R-4: 11 before it. Definitions only.
use Rattle.error.specs.Refusals.{Said, given}
use Rattle.state.specs.declared.State.{State}
use Rattle.state.specs.Record.{checked}

-- what is asked of a record that passes the StateRecord test
abbrev pub asked : {A : Type 0} → State → A → Said A
asked s a = checked s (given a)
