-- What the laws of the cut speak of, in units of 2 ^ -1074: a frame's exact position, and the edges of the input. Definitions only.
use Rattle.std.specs.Prelude.{ℕ, suc, ◌*◌, ◌^◌, ◌<◌, ◌≤◌, Float}
use Rattle.std.specs.Float.{binary64}
use Rattle.exact.specs.Whole.{Whole, ◌⊕◌, Less, AtMost}
use Rattle.exact.specs.Exact.{exact}
use Rattle.state.specs.declared.State.{State}
use Rattle.state.specs.Record.{step_now_of}
use Rattle.path.specs.Path.{path_at}
use Rattle.plan.specs.Plan.{increment_of}

-- the input frames used before the block plus an index
abbrev pub placed : ℕ → Float → Whole
placed used x = (used * 2 ^ 1074, 0) ⊕ exact binary64 x

-- the position of the frame k, the first being frame 0
abbrev pub position_of : State → ℕ → ℕ → Whole
position_of s used k = placed used (path_at (step_now_of s) (increment_of s) s.index (suc k)).index

-- edge - 2^-20
abbrev pub edge_of : ℕ → Whole
edge_of edge = (edge * 2 ^ 1074, 2 ^ 1054)

-- the first n frames of the block lie before edge - 2^-20, and the one after them, where the block has it, does not
pub record Leads (s : State) (used edge n : ℕ) : Type 0 where
  pub each : (k : ℕ) → k < n → Less (position_of s used k) (edge_of edge)
  pub next : n < s.output → AtMost (edge_of edge) (position_of s used n)
  pub most : n ≤ s.output
