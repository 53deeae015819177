-- The parts of a block joined: what the second pass leaves, and the outcome of each way out. Assumes nothing.
use mathlib.Core.Bool.{true}
use mathlib.Core.List.{List}
use mathlib.Core.Path.{◌≡◌, sym, ap, ◌∙◌}
use Prim.Native.Nat.{ℕ, ◌*◌, ◌/◌}
use lib.Ieee.{Float}
use lib.ListN.{length, replicate}
use Rattle.exact.specs.Doubles.{zero_f}
use Rattle.error.specs.declared.Refusal.{Refusal}
use Rattle.state.specs.declared.State.{State}
use Rattle.std.specs.Prelude.{Result, Ok, Err}
use Rattle.error.specs.Refusals.{said_result}
use Rattle.state.specs.Record.{points_in, step_now_of, is_state}
use Rattle.state.proofs.Checked.{check_accepted}
use Rattle.error.proofs.Ladder.{accepted}
use Rattle.area.specs.Moves.{moved_all, loaded_all}
use Rattle.frames.specs.Run.{ran_all}
use Rattle.shape.specs.Shape.{read_of, stride_of, shape_holds}
use Rattle.plan.specs.Plan.{increment_of, planned, resetting}
use Rattle.process.specs.Block.{work_after, output_after, sizes_of, block_end, block_of, block_left, reset_end, reset_of, reset_left}

-- ---- the second pass: the working area, then the output on it
module _ (s : State) (frames mask : ℕ) (table input : List Float) (at : ℕ) (work : List Float) where
  work_is : (stride l read : ℕ) (moved loaded : List Float) → stride ≡ stride_of s → l ≡ points_in s → read ≡ read_of s frames
      → moved ≡ moved_all s.fill (2 * l) stride s.channels work
      → loaded ≡ loaded_all mask (2 * l) input (length input / s.channels) at read s.input stride s.channels moved → loaded ≡ work_after s frames mask input at work
  unfolding work_after
  work_is stride l read moved loaded a b c d e = rw (e, d, c, b, a)

  pub written : (to : ℕ) (output : List Float) (stride l read : ℕ) (moved loaded out : List Float) (t d : Float) → stride ≡ stride_of s → l ≡ points_in s → read ≡ read_of s frames
      → moved ≡ moved_all s.fill (2 * l) stride s.channels work
      → loaded ≡ loaded_all mask (2 * l) input (length input / s.channels) at read s.input stride s.channels moved → t ≡ step_now_of s → d ≡ increment_of s
      → out ≡ ran_all s.kind table s.input mask loaded stride t d s.index s.output to (length output / s.channels) s.channels output
      → (loaded ≡ work_after s frames mask input at work) × (out ≡ output_after s mask table (work_after s frames mask input at work) to output)
  unfolding output_after
  written to output stride l read moved loaded out t d a b c e f g h k =
      let w = work_is stride l read moved loaded a b c e f in
      (w, rw (k, a, g, h, w))

-- ---- the block's two ways out
module _ (s : State) (frames mask : ℕ) (table input output work : List Float) (m : Result State Refusal) (e : said_result m ≡ planned s frames mask (length table) (length input) (length output) (length work)) where
  pub block_refused : (r : Refusal) → m ≡ Err r → block_left (record { state = s; answer = Err r }) output work ≡ block_of s frames mask table input output work
  block_refused r h = ap (block_end s frames mask table input output work) (ap said_result (sym h) ∙ e)

  pub block_ran : (t : State) (out left : List Float) → m ≡ Ok t → left ≡ work_after s frames mask input 0 work → out ≡ output_after s mask table (work_after s frames mask input 0 work) 0 output
      → block_left (record { state = t; answer = Ok (sizes_of s) }) out left ≡ block_of s frames mask table input output work
  block_ran t out left h a b = rw (a, b) (ap (block_end s frames mask table input output work) (ap said_result (sym h) ∙ e))

  -- a record to come: the tests of the first pass hold
  pub block_tests : (t : State) → m ≡ Ok t → (is_state s ≡ true) × (shape_holds s frames mask (length table) (length input) (length output) (length work) ≡ true)
  unfolding planned
  block_tests t h =
      let a = check_accepted s _ t (sym e ∙ ap said_result h) in
      let b = accepted (shape_holds s frames mask (length table) (length input) (length output) (length work)) _ _ _ t a.1 in
      (a.0, b.0)

-- ---- the two ways out of a reset
module _ (s : State) (work : List Float) (m : Result State Refusal) (e : said_result m ≡ resetting s (length work)) where
  pub reset_refused : (r : Refusal) → m ≡ Err r → reset_left (record { state = s; answer = Err r }) work ≡ reset_of s work
  reset_refused r h = ap (reset_end s work) (ap said_result (sym h) ∙ e)

  pub reset_done : (t : State) (left : List Float) → m ≡ Ok t → left ≡ replicate (length work) zero_f
      → reset_left (record { state = t; answer = Ok tt }) left ≡ reset_of s work
  reset_done t left h a = rw a (ap (reset_end s work) (ap said_result (sym h) ∙ e))
