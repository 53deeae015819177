-- Construction as one outcome for every input: document 01's refusals in its order, 1, 2, 3, 5, 7, 6, with R-4's 11 first, then the record. Definitions only.
use Rattle.std.specs.Prelude.{[], ◌∷◌, ℕ, leb, Float}
use Rattle.exact.specs.Doubles.{above_zero, at_least_one}
use Rattle.error.specs.Refusals.{Said, given, refused, unless}
use Rattle.kinds.specs.declared.Kind.{Kind}
use Rattle.kinds.specs.Kinds.{points_of, kind_holds}
use Rattle.sizes.specs.declared.FixedAsync.{FixedAsync}
use Rattle.state.specs.declared.State.{State}
use Rattle.sizes.specs.Bounds.{is_ratio, is_channels}
use Rattle.sizes.specs.Sizes.{start_of}
use Rattle.steps.specs.Steps.{step_of}
use Rattle.state.specs.Record.{maxima_hold, changed, update_lengths}

-- the record before its sizes are worked out
abbrev pub fresh_state : Float → Float → Kind → ℕ → ℕ → FixedAsync → State
fresh_state r m kind chunk channels fixed =
    record {
      channels = channels;
      chunk = chunk;
      chunk0 = chunk;
      input = 0;
      output = 0;
      fill = 0;
      index = start_of (points_of kind);
      original = r;
      current = r;
      target = r;
      now = step_of r;
      then = step_of r;
      m = m;
      kind = kind;
      fixed = fixed;
    }

-- "Fill starts at the needed input."
abbrev pub with_fill : State → ℕ → State
with_fill s n = changed s s.chunk s.input s.output n s.index s.current s.target s.now s.then

abbrev pub filled : Said State → Said State
filled (given s) = given (with_fill s s.input)
filled (refused n vs) = refused n vs

-- refusal 6 of construction: "at construction also a maximum size"
unfoldable pub first_lengths : State → Said State
unfolding unless update_lengths
first_lengths s = unless (maxima_hold s) 6 [] (filled (update_lengths s))

unfoldable pub construct : Float → Float → Kind → ℕ → ℕ → FixedAsync → Said State
unfolding unless first_lengths
construct r m kind chunk channels fixed =
    unless (kind_holds kind) 11 []
    (unless (above_zero r) 1 (r ∷ [])
    (unless (at_least_one m) 2 (m ∷ [])
    (unless (leb 1 chunk) 3 []
    (unless (is_ratio r) 5 (r ∷ [])
    (unless (is_channels channels) 7 []
    (first_lengths (fresh_state r m kind chunk channels fixed)))))))
