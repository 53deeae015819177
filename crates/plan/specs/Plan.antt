-- Document 01, "Block run" and reset, as far as the record and the areas' lengths go: what is refused, and the record that is left. No sample enters. Definitions only.
use Rattle.std.specs.Prelude.{Bool, cond, [], ℕ, eqb, Float}
use Rattle.exact.specs.Doubles.{◌-f◌, ◌/f◌, count, zero_f}
use Rattle.error.specs.Refusals.{Said, unless}
use Rattle.sizes.specs.Sizes.{start_of}
use Rattle.state.specs.declared.State.{State}
use Rattle.steps.specs.Steps.{step_of}
use Rattle.state.specs.Record.{points_in, step_now_of, step_then_of, checked, changed, update_lengths}
use Rattle.shape.specs.Shape.{work_holds, shape_holds}
use Rattle.path.specs.Path.{path_at}
use Rattle.path.specs.Sites.{all_reach}

-- ---- the run
-- "t = 1/r1; d = (1/r2 - 1/r1)/out, unused when out is 0", of the stored steps
abbrev pub increment_of : State → Float
increment_of s = cond (eqb s.output 0) zero_f ((step_then_of s -f step_now_of s) /f count s.output)

-- refusal 9 is given unless this holds
abbrev pub reach_holds : State → Bool
reach_holds s = all_reach s.kind s.input (step_now_of s) (increment_of s) s.index s.output

-- the index after the last frame
abbrev pub index_after : State → Float
index_after s = (path_at (step_now_of s) (increment_of s) s.index s.output).index

-- "The new index is the index minus needed input. Fill becomes needed input. Current ratio becomes target, even with no frame." R-2: and its step with it
abbrev pub after_block : State → State
after_block s = changed s s.chunk s.input s.output s.input (index_after s -f count s.input) s.target s.target s.then s.then

-- the record that the block leaves: (11,) 10, 8, 9, 6
unfoldable pub planned : State → ℕ → ℕ → ℕ → ℕ → ℕ → ℕ → Said State
unfolding unless
planned s frames mask table input output work =
    checked s
    (unless (shape_holds s frames mask table input output work) 8 []
    (unless (reach_holds s) 9 []
    (update_lengths (after_block s))))

-- ---- reset: (11,) 10, 8 for a working area of the wrong length, 6
-- "Reset restores ratio, chunk, index and sizes, .., and does not touch the fill." R-2: and the steps
abbrev pub restored : State → State
restored s = changed s s.chunk0 s.input s.output s.fill (start_of (points_in s)) s.original s.original (step_of s.original) (step_of s.original)

unfoldable pub resetting : State → ℕ → Said State
unfolding unless
resetting s work = checked s (unless (work_holds s work) 8 [] (update_lengths (restored s)))
