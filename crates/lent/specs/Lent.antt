-- A block on the front parts of larger areas: how long each part is, and what the block leaves of the whole areas. Definitions only.
use Rattle.std.specs.Prelude.{cond, ◌&&◌, List, ◌++◌, ℕ, ◌*◌, leb, Float, length, take, drop, replicate}
use Rattle.exact.specs.Doubles.{zero_f}
use Rattle.state.specs.declared.State.{State}
use Rattle.state.specs.Record.{is_state}
use Rattle.shape.specs.Shape.{stride_of}
use Rattle.process.specs.declared.Sizes.{Sizes}
use Rattle.process.specs.Block.{Block, block_of}

-- the samples of so many frames; 0 where there are more channels or frames than a block has
unfoldable pub area_length : ℕ → ℕ → ℕ
area_length channels frames = cond (leb channels 16 && leb frames 65536) (channels * frames) 0

-- the samples of the working area of a record; 0 of a record that no call takes
unfoldable pub work_length : State → ℕ
work_length s = cond (is_state s) (s.channels * stride_of s) 0

-- what a block on the front parts leaves, with what lies behind them
abbrev pub behind : Block Sizes → List Float → List Float → Block Sizes
behind b output work = record { state = b.state; said = b.said; output = b.output ++ output; work = b.work ++ work }

-- the first n samples of an area, or all of them, as zeros
abbrev pub zeros_of : ℕ → List Float → List Float
zeros_of n xs = replicate (length (take n xs)) zero_f

-- the block on the table, on the front of the input, on zeros in place of the output's front, and on the front of the working area; what lies behind the fronts stays
unfoldable pub lent_of : State → ℕ → ℕ → List Float → List Float → List Float → List Float → Block Sizes
lent_of s frames mask table input output work =
    behind
    (block_of s frames mask table (take (area_length s.channels s.input) input) (zeros_of (area_length s.channels s.output) output) (take (work_length s) work))
    (drop (area_length s.channels s.output) output)
    (drop (work_length s) work)
