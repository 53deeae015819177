-- Demand 3 in whole numbers of 2^-1074: the exact and the stored position, and the bound, over a history. Definitions only.
-- A pair (a, b) of natural numbers stands for a - b; `exact binary64 x` is the value of the double x in units of 2^-1074.
use Rattle.std.specs.Prelude.{cond, List, [], ◌∷◌, ℕ, ◌+◌, ◌*◌, ◌^◌}
use Rattle.std.specs.Float.{binary64}
use Rattle.std.specs.Float.Ieee.{eq}
use Rattle.exact.specs.Doubles.{zero_f}
use Rattle.exact.specs.Whole.{Whole, ◌⊕◌, ◌⊙◌}
use Rattle.exact.specs.Exact.{exact}
use Rattle.exact.specs.Running.{tri}
use Rattle.error.specs.Refusals.{Said, given, refused}
use Rattle.state.specs.declared.State.{State}
use Rattle.state.specs.Record.{step_now_of}
use Rattle.process.specs.declared.Sizes.{Sizes}
use Rattle.plan.specs.Plan.{increment_of}
use Rattle.process.specs.Block.{block_of}
use Rattle.position.specs.History.{Call, ratio, relative, chunk, block, left_by}

-- what is added up along a history: the exact position, the input sizes answered, the output frames N, the accepted blocks B, and the ramps' part of the bound
pub record Account : Type 0 where
  pub exactly : Whole
  pub inputs : ℕ
  pub frames : ℕ
  pub blocks : ℕ
  pub ramps : ℕ

-- "The exact position is the start index plus ..": nothing is added up yet
abbrev pub opened : State → Account
opened s = record { exactly = exact binary64 s.index; inputs = 0; frames = 0; blocks = 0; ramps = 0 }

-- ".. for each block, n*t + d*n*(n+1)/2": n its output frames, t and d its starting step and ramp increment, doubles taken as exact; R-2: t is the step that the record holds. tri n is 1 + 2 + .. + n, which is n*(n+1)/2 (`tri_half` in exact)
abbrev pub exact_move : State → ℕ → Whole
exact_move s n = n ⊙ exact binary64 (step_now_of s) ⊕ tri n ⊙ exact binary64 (increment_of s)

-- "plus n*(n+1)/2^46 for each block whose d is not zero", in units of 2^-1074
abbrev pub ramp_of : State → ℕ → ℕ
ramp_of s n = cond (eq (increment_of s) zero_f) 0 (n * (n + 1) * 2 ^ 1028)

-- a block that answered its two sizes is added; a refused one adds nothing
abbrev pub added : State → Account → Said Sizes → Account
added s a (given z) =
    record { exactly = a.exactly ⊕ exact_move s z.output; inputs = a.inputs + z.input; frames = a.frames + z.output; blocks = a.blocks + 1; ramps = a.ramps + ramp_of s z.output }
added s a (refused n vs) = a

abbrev pub accounted : State → Account → Call → Account
accounted s a (ratio r ramp) = a
accounted s a (relative rel ramp) = a
accounted s a (chunk n) = a
accounted s a (block frames mask table input output work) = added s a (block_of s frames mask table input output work).said

-- the record and the account after the calls, in order
pub record Ledger : Type 0 where
  pub state : State
  pub account : Account

unfoldable pub ledger : State → Account → List Call → Ledger
ledger s a [] = record { state = s; account = a }
ledger s a (c ∷ cs) = ledger (left_by s c) (accounted s a c) cs

-- "add the input sizes answered by all accepted blocks to the stored index"
abbrev pub stored : Ledger → Whole
stored l = (l.account.inputs * 2 ^ 1074, 0) ⊕ exact binary64 l.state.index

-- "at most (N+B)/2^37, plus n*(n+1)/2^46 for each block whose d is not zero"
abbrev pub bound : Ledger → ℕ
bound l = (l.account.frames + l.account.blocks) * 2 ^ 1037 + l.account.ramps
