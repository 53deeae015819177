-- Document 01, "Block run", 3: "Per frame: t becomes t+d, then the index becomes index+t." Definitions only.
use Rattle.std.specs.Prelude.{ℕ, zero, suc, Float}
use Rattle.exact.specs.Doubles.{◌+f◌}
use Rattle.path.specs.declared.Moment.{Moment}

-- one frame: the one step that Reach, the run and every definition share
abbrev pub step_index : Float → Moment → Moment
step_index d at = record { index = at.index +f (at.step +f d); step = at.step +f d }

-- the index and the step after f frames, from the index i and the step t
unfoldable pub path_at : Float → Float → Float → ℕ → Moment
path_at t d i zero = record { index = i; step = t }
path_at t d i (suc f) = step_index d (path_at t d i f)
