-- Document 02, R-13: the line along live calls, and what it is beside demand 3's ledger. Definitions only.
use Rattle.std.specs.Prelude.{List, [], ◌∷◌, ◌≡◌, ◌*◌, Float}
use Rattle.exact.specs.Whole.{◌⊙◌, Same}
use Rattle.error.specs.Refusals.{Said, given, refused}
use Rattle.state.specs.declared.State.{State}
use Rattle.state.specs.Record.{step_now_of}
use Rattle.plan.specs.Plan.{increment_of}
use Rattle.process.specs.declared.Sizes.{Sizes}
use Rattle.process.specs.Block.{block_of}
use Rattle.position.specs.History.{Call, ratio, relative, chunk, block, left_by}
use Rattle.position.specs.Position.{Ledger, stored, bound}
use Rattle.positions.specs.Positions.{unit}
use Rattle.lines.specs.Lines.{Figures, Going, on, ended, started, with_block}

-- an accepted block is added by the sizes that it answered, the step and the increment that it began with, and the index that it left; a refused one adds nothing
abbrev pub grown_by : State → Going → Said Sizes → Float → Going
grown_by s (on f) (given z) index = with_block f z.output z.input (step_now_of s) (increment_of s) index
grown_by s (on f) (refused n vs) index = on f
grown_by s (ended e) said index = ended e

abbrev pub line_after : State → Going → Call → Going
line_after s g (ratio r ramp) = g
line_after s g (relative rel ramp) = g
line_after s g (chunk n) = g
line_after s g (block frames mask table input output work) =
    grown_by s g (block_of s frames mask table input output work).said (left_by s (block frames mask table input output work)).index

-- the line after the calls, each on the record that the last one left
unfoldable pub line_along : State → Going → List Call → Going
line_along s g [] = g
line_along s g (c ∷ cs) = line_along (left_by s c) (line_after s g c) cs

-- from the record that a history starts with
abbrev pub live_line : State → List Call → Going
live_line s cs = line_along s (started s.index) cs

-- the figures are the ledger's: a unit of 2^-192 is 2^882 of those of 2^-1074
pub record IsLedger (f : Figures) (l : Ledger) : Type 0 where
  pub frames_are : f.frames ≡ l.account.frames
  pub blocks_are : f.blocks ≡ l.account.blocks
  pub inputs_are : f.inputs ≡ l.account.inputs
  pub exactly_is : Same (unit ⊙ f.exactly) l.account.exactly
  pub stored_is : Same (unit ⊙ f.stored) (stored l)
  pub most_is : f.most * unit ≡ bound l
