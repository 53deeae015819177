-- Document 01, "How tight the promises are": "two outcomes allowed by one promise are equal." Stated once, and applied to every public call. Assumes nothing.
-- A promise is one equation `said outcome ≡ definition`. docs/TIGHTNESS.md lists every public call with its promise.
use mathlib.Core.List.{List}
use mathlib.Core.Path.{◌≡◌, sym, ◌∙◌}
use Prim.Native.Nat.{ℕ}
use lib.Ieee.{Float}
use Rattle.std.specs.Prelude.{Result}
use Rattle.error.specs.declared.Refusal.{Refusal}
use Rattle.error.specs.Refusals.{Said, said_result, said_answer}
use Rattle.error.proofs.Settled.{result_settled, answer_settled}
use Rattle.interpolation.specs.declared.Point.{Point}
use Rattle.interpolation.specs.Grid.{said_time}
use Rattle.interpolation.proofs.Settled.{time_settled}
use Rattle.state.specs.declared.State.{State}
use Rattle.asynchro.specs.declared.Outcome.{Outcome}
use Rattle.asynchro.specs.Calls.{Left, result_of}
use Rattle.asynchro.proofs.Settled.{outcome_settled}
use Rattle.process.specs.declared.Sizes.{Sizes}
use Rattle.process.specs.Block.{Block, Reset, block_left, reset_left}
use Rattle.process.proofs.Settled.{block_settled, reset_settled}
use Rattle.window_points.specs.Filled.{Filled, built_left}
use Rattle.window_points.proofs.Settled.{built_settled}

-- what is said settles the outcome
abbrev pub Settles : {A B : Type 0} → (A → B) → Type 0
Settles {A} said = (a b : A) → said a ≡ said b → a ≡ b

-- two outcomes that one promise allows are equal
pub one_outcome : {A B : Type 0} (said : A → B) → Settles said → (defined : B) (a b : A) → said a ≡ defined → said b ≡ defined → a ≡ b
one_outcome said settles defined a b p q = settles a b (p ∙ sym q)

-- ---- applied to every public call. A call whose promise is `r ≡ definition` is settled as it stands: said is the identity
pub plain : {A : Type 0} (defined a b : A) → a ≡ defined → b ≡ defined → a ≡ b
plain = one_outcome (λ a. a) (λ a b e. e)

-- kernels, blends, the cutoff, the cosine and the sine, the ratio asked for
pub answers : (defined : Said Float) (a b : Result Float Refusal) → said_answer a ≡ defined → said_answer b ≡ defined → a ≡ b
answers = one_outcome said_answer answer_settled

-- one to four grid points
pub grid_1 : (defined : Said (List Point)) (a b : Result Point Refusal) → said_time a ≡ defined → said_time b ≡ defined → a ≡ b
grid_1 = one_outcome said_time time_settled

pub grid_2 : (defined : Said (List Point)) (a b : Result (List Point) Refusal) → said_result a ≡ defined → said_result b ≡ defined → a ≡ b
grid_2 = one_outcome said_result result_settled

pub grid_3 : (defined : Said (List Point)) (a b : Result (List Point) Refusal) → said_result a ≡ defined → said_result b ≡ defined → a ≡ b
grid_3 = one_outcome said_result result_settled

pub grid_4 : (defined : Said (List Point)) (a b : Result (List Point) Refusal) → said_result a ≡ defined → said_result b ≡ defined → a ≡ b
grid_4 = one_outcome said_result result_settled

-- construction
pub constructions : (defined : Said State) (a b : Result State Refusal) → said_result a ≡ defined → said_result b ≡ defined → a ≡ b
constructions = one_outcome said_result result_settled

-- ratio and chunk settings
pub settings : (defined : Left Unit) (a b : Outcome Unit) → result_of a ≡ defined → result_of b ≡ defined → a ≡ b
settings = one_outcome result_of outcome_settled

-- questions about a number
pub questions : (defined : Said ℕ) (a b : Result ℕ Refusal) → said_result a ≡ defined → said_result b ≡ defined → a ≡ b
questions = one_outcome said_result result_settled

-- the block run: the outcome, the output area and the working area
pub blocks : (defined : Block Sizes) (o p : Outcome Sizes) (output output' work work' : List Float) → block_left o output work ≡ defined → block_left p output' work' ≡ defined
    → (o ≡ p) × (output ≡ output') × (work ≡ work')
blocks defined o p output output' work work' a b = block_settled o p output output' work work' (a ∙ sym b)

-- reset: the outcome and the working area
pub resets : (defined : Reset) (o p : Outcome Unit) (work work' : List Float) → reset_left o work ≡ defined → reset_left p work' ≡ defined → (o ≡ p) × (work ≡ work')
resets defined o p work work' a b = reset_settled o p work work' (a ∙ sym b)

-- a window or a table in a lent area: the answer and the area
pub fills : (defined : Filled) (o p : Result Unit Refusal) (area area' : List Float) → built_left o area ≡ defined → built_left p area' ≡ defined → (o ≡ p) × (area ≡ area')
fills defined o p area area' a b = built_settled o p area area' (a ∙ sym b)
