-- A history: a start, and any calls after it, each on the record the last one left. The calls are the definitions that the public calls are proved equal to.
-- Nothing is asked of the floats: an f64 of the code holds a double, and a Float here can also be a number that is no double. Definitions only.
use Rattle.std.specs.Prelude.{Bool, List, ◌≡◌, ℕ, Float}
use Rattle.error.specs.Refusals.{given}
use Rattle.kinds.specs.declared.Kind.{Kind}
use Rattle.sizes.specs.declared.FixedAsync.{FixedAsync}
use Rattle.state.specs.declared.State.{State}
use Rattle.construction.specs.Construction.{construct}
use Rattle.asynchro.specs.Calls.{set_ratio, set_relative, set_chunk}
use Rattle.process.specs.Block.{block_of, reset_of}

-- the record that a history starts with: an accepted construction's, or an accepted reset's of any record and working area
pub data Start : State → Type 0 where
  constructed : (r m : Float) (kind : Kind) (chunk channels : ℕ) (fixed : FixedAsync) (s : State) → construct r m kind chunk channels fixed ≡ given s → Start s
  restarted : (s : State) (work : List Float) → (reset_of s work).said ≡ given tt → Start (reset_of s work).state

-- a call, accepted or refused: a ratio setting with or without ramp, a chunk setting, or a block with its frames given, its mask, its table and its three areas.
-- What is no call: a question hands back no record, so the record stays. A refused reset leaves the record and the working area; with an accepted one a new history starts.
-- An in-place call leaves, by its promise, what the by-value one leaves.
pub data Call : Type 0 where
  ratio : Float → Bool → Call
  relative : Float → Bool → Call
  chunk : ℕ → Call
  block : ℕ → ℕ → List Float → List Float → List Float → List Float → Call

-- the record that a call leaves
abbrev pub left_by : State → Call → State
left_by s (ratio r ramp) = (set_ratio s r ramp).state
left_by s (relative rel ramp) = (set_relative s rel ramp).state
left_by s (chunk n) = (set_chunk s n).state
left_by s (block frames mask table input output work) = (block_of s frames mask table input output work).state
