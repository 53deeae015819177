-- What the test of a record answers, in document 01's words. Definitions only.
use Rattle.std.specs.Prelude.{Result, Ok, Err}
use Rattle.error.specs.declared.Refusal.{Refusal}
use Rattle.error.specs.Refusals.{Said, given, refused, number_of, values_of}
use Rattle.state.specs.declared.State.{State}
use Rattle.state.specs.declared.measured.Tested.{Tested}

-- the record that passed, or the refusal
abbrev pub said_checked : Result Tested Refusal → Said State
said_checked (Ok c) = given c.state
said_checked (Err r) = refused (number_of r) (values_of r)
