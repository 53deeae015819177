-- The record that a ratio setting puts together, its step worked out before. Assumes nothing.
use mathlib.Core.Bool.{Bool, cond}
use mathlib.Core.Path.{◌≡◌}
use lib.Ieee.{Float}
use Rattle.state.specs.declared.State.{State}
use Rattle.steps.specs.Steps.{step_of}
use Rattle.state.specs.Record.{changed}
use Rattle.asynchro.specs.Calls.{with_ratio}

-- t is the step of the new ratio, b says that there is a ramp
pub ratio_set : (s : State) (r t : Float) (ramp b : Bool) → t ≡ step_of r → ramp ≡ b
    → changed s s.chunk s.input s.output s.fill s.index (cond b s.current r) r (cond b s.now t) t ≡ with_ratio s r ramp
ratio_set s r t ramp b e h = rw (h, e)
