-- Document 01, "Refusal numbers": the number and the floats of each refusal, and what a call says in those words. Definitions only.
use Rattle.std.specs.Prelude.{Bool, true, false, List, [], ◌∷◌, ◌++◌, ℕ, Float, length, take, Result, Ok, Err}
use Rattle.exact.specs.Doubles.{zero_f}
use Rattle.error.specs.declared.Refusal.{Refusal}
use Rattle.error.specs.declared.Refusal.TheVariants.{InvalidRatio, InvalidRelativeRatio, InvalidChunkSize, RatioOutOfBounds, RatioBeyondPort, SizeTooLarge, Channels, BufferShape, Reach, StateRecord, Argument}
use Rattle.error.specs.declared.Carried.{Carried}

-- the column "No"
abbrev pub number_of : Refusal → ℕ
number_of (InvalidRatio r) = 1
number_of (InvalidRelativeRatio m) = 2
number_of InvalidChunkSize = 3
number_of (RatioOutOfBounds provided original m) = 4
number_of (RatioBeyondPort r) = 5
number_of SizeTooLarge = 6
number_of Channels = 7
number_of BufferShape = 8
number_of Reach = 9
number_of StateRecord = 10
number_of Argument = 11

-- the floats shown beside the name
abbrev pub values_of : Refusal → List Float
values_of (InvalidRatio r) = r ∷ []
values_of (InvalidRelativeRatio m) = m ∷ []
values_of InvalidChunkSize = []
values_of (RatioOutOfBounds provided original m) = provided ∷ original ∷ m ∷ []
values_of (RatioBeyondPort r) = r ∷ []
values_of SizeTooLarge = []
values_of Channels = []
values_of BufferShape = []
values_of Reach = []
values_of StateRecord = []
values_of Argument = []

-- What a call says, in document 01's words: what was asked for, or a refusal's number and its floats.
pub data Said (A : Type 0) : Type 0 where
  given : A → Said A
  refused : ℕ → List Float → Said A

-- the refusal n with its floats, unless the test passes: a ladder of these is document 01's order of refusals
unfoldable pub unless : {A : Type 0} → Bool → ℕ → List Float → Said A → Said A
unless true n vs next = next
unless false n vs next = refused n vs

-- a call's answer in those words
abbrev pub said_result : {A : Type 0} → Result A Refusal → Said A
said_result (Ok v) = given v
said_result (Err r) = refused (number_of r) (values_of r)

-- a leaf's, which gives one double
abbrev pub said_answer : Result Float Refusal → Said Float
said_answer a = said_result a

-- the floats, and zeros up to three
abbrev pub padded : List Float → Carried
padded vs = record { count = length vs; values = take 3 (vs ++ (zero_f ∷ zero_f ∷ zero_f ∷ [])) }
