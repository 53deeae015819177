-- The state record: its steps and sizes, the StateRecord test, and the one end of every call. Definitions only.
use Rattle.std.specs.Prelude.{Bool, ◌&&◌, [], ℕ, leb, Float, Option, is_some}
use Rattle.exact.specs.Doubles.{at_least_one}
use Rattle.error.specs.Refusals.{Said, given, unless}
use Rattle.kinds.specs.Kinds.{points_of, kind_holds}
use Rattle.steps.specs.Steps.{is_step}
use Rattle.state.specs.declared.State.{State}
use Rattle.sizes.specs.Bounds.{is_ratio, is_channels, is_chunk, is_index}
use Rattle.sizes.specs.Sizes.{needed_input, needed_output, max_input, max_output, frames_of, size_equals, size_at_least}

-- the points L of a record
abbrev pub points_in : State → ℕ
points_in s = points_of s.kind

-- Document 02, R-2: "Store 1/current and 1/target in the state record". The stored steps, 1/r1 and 1/r2, as sizes, t and d read them
abbrev pub step_now_of : State → Float
step_now_of s = s.now

abbrev pub step_then_of : State → Float
step_then_of s = s.then

-- the sizes by the formulas
abbrev pub input_of : State → Option ℕ
input_of s = needed_input s.fixed (points_in s) s.chunk s.index (step_now_of s) (step_then_of s)

abbrev pub output_of : State → Option ℕ
output_of s = needed_output s.fixed (points_in s) s.chunk s.index (step_now_of s) (step_then_of s)

abbrev pub max_input_of : State → Option ℕ
max_input_of s = max_input s.fixed (points_in s) s.chunk0 s.original s.m

abbrev pub max_output_of : State → Option ℕ
max_output_of s = max_output s.fixed s.chunk0 s.original s.m

-- Document 01, "StateRecord asks", in its order: ..
-- "channels, chunk and construction chunk within bounds and chunk at most the latter"
abbrev pub counts_hold : State → Bool
counts_hold s = is_channels s.channels && is_chunk s.chunk && is_chunk s.chunk0 && leb s.chunk s.chunk0

-- "original, current and target ratio within bounds; m finite and at least 1"
abbrev pub ratios_hold : State → Bool
ratios_hold s = is_ratio s.original && is_ratio s.current && is_ratio s.target && at_least_one s.m

-- R-2: "10 is also given if either stored step differs from its division"
abbrev pub steps_hold : State → Bool
steps_hold s = is_step s.now s.current && is_step s.then s.target

-- "maximum sizes at most 65,536"
abbrev pub maxima_hold : State → Bool
maxima_hold s = is_some (max_input_of s) && is_some (max_output_of s)

-- "needed sizes equal to the formulas below and within refusal 6's bounds; fill at most maximum input"
abbrev pub sizes_hold : State → Bool
sizes_hold s = size_equals (input_of s) s.input && size_equals (output_of s) s.output && size_at_least (max_input_of s) s.input && size_at_least (max_input_of s) s.fill

-- "index finite and strictly between -2^17 and 2^17". R-4: a record of other points or factors passes no test
unfoldable pub is_state : State → Bool
is_state s = kind_holds s.kind && counts_hold s && ratios_hold s && steps_hold s && maxima_hold s && sizes_hold s && is_index s.index

-- The first rungs of every call on a record. Document 02, R-4: "other points or factors 11, first"; document 01: "10, ..", "Questions about a state: 10 only"
abbrev pub checked : {A : Type 0} → State → Said A → Said A
checked s next = unless (kind_holds s.kind) 11 [] (unless (is_state s) 10 [] next)

-- a record with other values of the fields that calls change; the others never change
abbrev pub changed : State → ℕ → ℕ → ℕ → ℕ → Float → Float → Float → Float → Float → State
changed s chunk input output fill index current target now then =
    record {
      channels = s.channels;
      chunk = chunk;
      chunk0 = s.chunk0;
      input = input;
      output = output;
      fill = fill;
      index = index;
      original = s.original;
      current = current;
      target = target;
      now = now;
      then = then;
      m = s.m;
      kind = s.kind;
      fixed = s.fixed;
    }

abbrev pub with_sizes : State → ℕ → ℕ → State
with_sizes s i o = changed s s.chunk i o s.fill s.index s.current s.target s.now s.then

-- The end of every call: "sizes are worked out again"; refusal 6: "a size the call would leave exceeds 65,536, or needed input exceeds maximum input".
unfoldable pub update_lengths : State → Said State
unfolding unless
update_lengths s =
    unless (is_some (input_of s)) 6 []
    (unless (is_some (output_of s)) 6 []
    (unless (size_at_least (max_input_of s) (frames_of (input_of s))) 6 []
    (given (with_sizes s (frames_of (input_of s)) (frames_of (output_of s))))))
