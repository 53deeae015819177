-- Document 01, "Block run" (2 as R-1 of document 02 has it) and reset: each call as one outcome (what it says, the record, the output area, the working area) for every input. Definitions only.
use Rattle.std.specs.Prelude.{List, ℕ, ◌*◌, ◌/◌, Float, length, replicate}
use Rattle.exact.specs.Doubles.{zero_f}
use Rattle.error.specs.Refusals.{Said, given, refused, said_result}
use Rattle.state.specs.declared.State.{State}
use Rattle.state.specs.Record.{points_in, step_now_of}
use Rattle.asynchro.specs.declared.Outcome.{Outcome}
use Rattle.area.specs.Moves.{moved_all, loaded_all}
use Rattle.frames.specs.Run.{ran_all}
use Rattle.shape.specs.Shape.{read_of, stride_of}
use Rattle.plan.specs.Plan.{increment_of, planned, resetting}
use Rattle.process.specs.declared.Sizes.{Sizes}

-- ---- the areas
-- document 02, R-1: the move in every channel; then the reading, from place `at` of each share of the input, and the zeros, in those that the mask has on
unfoldable pub work_after : State → ℕ → ℕ → List Float → ℕ → List Float → List Float
work_after s frames mask input at work =
    loaded_all mask (2 * points_in s) input (length input / s.channels) at (read_of s frames) s.input (stride_of s) s.channels
    (moved_all s.fill (2 * points_in s) (stride_of s) s.channels work)

-- the output area after the frames, from place `at` of each share, by the lent table, on the working area `work`
unfoldable pub output_after : State → ℕ → List Float → List Float → ℕ → List Float → List Float
output_after s mask table work at output =
    ran_all s.kind table s.input mask work (stride_of s) (step_now_of s) (increment_of s) s.index s.output at (length output / s.channels) s.channels output

-- ---- the outcome
-- what a block or a reset leaves: the record, what it says, the output area and the working area
pub record Block (A : Type 0) : Type 0 where
  pub state : State
  pub said : Said A
  pub output : List Float
  pub work : List Float

-- "The answer is the two sizes used: the needed input the block began with .. and its output frames."
abbrev pub sizes_of : State → Sizes
sizes_of s = record { input = s.input; output = s.output }

abbrev pub block_end : State → ℕ → ℕ → List Float → List Float → List Float → List Float → Said State → Block Sizes
block_end s frames mask table input output work (given t) =
    record { state = t; said = given (sizes_of s); output = output_after s mask table (work_after s frames mask input 0 work) 0 output; work = work_after s frames mask input 0 work }
block_end s frames mask table input output work (refused n vs) = record { state = s; said = refused n vs; output = output; work = work }

abbrev pub block_of : State → ℕ → ℕ → List Float → List Float → List Float → List Float → Block Sizes
block_of s frames mask table input output work =
    block_end s frames mask table input output work (planned s frames mask (length table) (length input) (length output) (length work))

-- ---- reset
-- what a reset leaves: the record, what it says, and the working area, "zeroes the working area"
pub record Reset : Type 0 where
  pub state : State
  pub said : Said Unit
  pub work : List Float

abbrev pub reset_end : State → List Float → Said State → Reset
reset_end s work (given t) = record { state = t; said = given tt; work = replicate (length work) zero_f }
reset_end s work (refused n vs) = record { state = s; said = refused n vs; work = work }

abbrev pub reset_of : State → List Float → Reset
reset_of s work = reset_end s work (resetting s (length work))

-- ---- the outcomes in document 01's words
-- what a call of the block run left: its outcome, and the two areas that it may change
abbrev pub block_left : Outcome Sizes → List Float → List Float → Block Sizes
block_left o output work = record { state = o.state; said = said_result o.answer; output = output; work = work }

abbrev pub reset_left : Outcome Unit → List Float → Reset
reset_left o work = record { state = o.state; said = said_result o.answer; work = work }
