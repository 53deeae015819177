-- What is said in document 01's words settles the answer: the number and the floats give the refusal back. Assumes nothing.
use mathlib.Core.List.{List, [], ◌∷◌}
use mathlib.Core.Path.{◌≡◌, refl, sym, ap, ◌∙◌}
use Prim.Native.Nat.{ℕ}
use lib.Ieee.{Float}
use lib.ListN.{get_or}
use Rattle.exact.specs.Doubles.{zero_f}
use Rattle.error.specs.declared.Refusal.{Refusal}
use Rattle.error.specs.declared.Refusal.TheVariants.{InvalidRatio, InvalidRelativeRatio, InvalidChunkSize, RatioOutOfBounds, RatioBeyondPort, SizeTooLarge, Channels, BufferShape, Reach, StateRecord, Argument}
use Rattle.std.specs.Prelude.{Result, Ok, Err}
use Rattle.error.specs.Refusals.{number_of, values_of, Said, given, refused, said_result, said_answer}

-- the refusal of a number and its floats
abbrev pub refusal_of : ℕ → List Float → Refusal
refusal_of n vs =
    get_or
    (Argument ∷ InvalidRatio (get_or vs 0 zero_f) ∷ InvalidRelativeRatio (get_or vs 0 zero_f) ∷ InvalidChunkSize ∷ RatioOutOfBounds (get_or vs 0 zero_f) (get_or vs 1 zero_f) (get_or vs 2 zero_f) ∷ RatioBeyondPort (get_or vs 0 zero_f) ∷ SizeTooLarge ∷ Channels ∷ BufferShape ∷ Reach ∷ StateRecord ∷ [])
    n Argument

pub refusal_back : (r : Refusal) → refusal_of (number_of r) (values_of r) ≡ r
refusal_back (InvalidRatio r) = refl
refusal_back (InvalidRelativeRatio m) = refl
refusal_back InvalidChunkSize = refl
refusal_back (RatioOutOfBounds p o m) = refl
refusal_back (RatioBeyondPort r) = refl
refusal_back SizeTooLarge = refl
refusal_back Channels = refl
refusal_back BufferShape = refl
refusal_back Reach = refl
refusal_back StateRecord = refl
refusal_back Argument = refl

-- any answer that is read off what is said is settled by what is said
pub settled : {A B : Type 0} (said : A → B) (back : B → A) → ((a : A) → back (said a) ≡ a) → (a b : A) → said a ≡ said b → a ≡ b
settled said back h a b e = sym (h a) ∙ ap back e ∙ h b

result_of : {A : Type 0} → Said A → Result A Refusal
result_of (given v) = Ok v
result_of (refused n vs) = Err (refusal_of n vs)

result_back : {A : Type 0} (a : Result A Refusal) → result_of (said_result a) ≡ a
unfolding result_of
result_back (Ok v) = refl
result_back (Err r) = ap Err (refusal_back r)

pub result_settled : {A : Type 0} (a b : Result A Refusal) → said_result a ≡ said_result b → a ≡ b
result_settled = settled said_result result_of result_back

pub answer_settled : (a b : Result Float Refusal) → said_answer a ≡ said_answer b → a ≡ b
answer_settled = result_settled
