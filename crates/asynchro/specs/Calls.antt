-- The calls on a ratio state, each as one outcome for every input: document 01's refusals in its order, then the record. Definitions only.
use Rattle.std.specs.Prelude.{Bool, cond, ◌&&◌, [], ◌∷◌, ℕ, leb, Float}
use Rattle.std.specs.Float.Ieee.{le}
use Rattle.exact.specs.Doubles.{◌*f◌, ◌/f◌, one_f, above_zero}
use Rattle.error.specs.Refusals.{Said, given, refused, unless, said_result}
use Rattle.state.specs.declared.State.{State}
use Rattle.asynchro.specs.declared.Outcome.{Outcome}
use Rattle.sizes.specs.Bounds.{is_ratio}
use Rattle.steps.specs.Steps.{step_of}
use Rattle.state.specs.Record.{checked, changed, update_lengths}

-- What a call on a record leaves: the record, and what it says.
pub record Left (A : Type 0) : Type 0 where
  pub state : State
  pub said : Said A

-- the new record, or on a refusal the record given
abbrev pub end_of : State → Said State → Left Unit
end_of s (given t) = record { state = t; said = given tt }
end_of s (refused n vs) = record { state = s; said = refused n vs }

-- ---- ratio settings: (11,) 10, 4, 5, 6
-- "Accepted under 4 if 1/m <= rel <= m"
abbrev pub relative_holds : Float → Float → Bool
relative_holds m rel = le (one_f /f m) rel && le rel m

-- "Both set the target. Without ramp they set the current ratio too." R-2: with each ratio its step
abbrev pub with_ratio : State → Float → Bool → State
with_ratio s r ramp = changed s s.chunk s.input s.output s.fill s.index (cond ramp s.current r) r (cond ramp s.now (step_of r)) (step_of r)

-- the new ratio, which passes under 4 where `accepted` holds; "in both forms provided is the new ratio"
abbrev pub applied : State → Bool → Float → Bool → Said State
applied s accepted ratio ramp =
    checked s
    (unless accepted 4 (ratio ∷ s.original ∷ s.m ∷ [])
    (unless (is_ratio ratio) 5 (ratio ∷ [])
    (update_lengths (with_ratio s ratio ramp))))

-- "An absolute setting divides by the original ratio to get rel"
abbrev pub set_ratio : State → Float → Bool → Left Unit
set_ratio s r ramp = end_of s (applied s (relative_holds s.m (r /f s.original)) r ramp)

-- "a relative one multiplies to get the new ratio .. and for the relative form the product is finite and above 0"
abbrev pub set_relative : State → Float → Bool → Left Unit
set_relative s rel ramp = end_of s (applied s (above_zero (s.original *f rel) && relative_holds s.m rel) (s.original *f rel) ramp)

-- ---- chunk setting: (11,) 10, 3, 6
abbrev pub with_chunk : State → ℕ → State
with_chunk s n = changed s n s.input s.output s.fill s.index s.current s.target s.now s.then

-- "chunk 0; on a later setting also above the construction chunk"
abbrev pub chunked : State → ℕ → Said State
chunked s n = checked s (unless (leb 1 n && leb n s.chunk0) 3 [] (update_lengths (with_chunk s n)))

abbrev pub set_chunk : State → ℕ → Left Unit
set_chunk s n = end_of s (chunked s n)

-- ---- the outcome in document 01's words
abbrev pub result_of : {A : Type 0} → Outcome A → Left A
result_of o = record { state = o.state; said = said_result o.answer }
