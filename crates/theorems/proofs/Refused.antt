-- Document 01, "Refusal numbers": "A refusal carries its number and the floats shown. State and every lent area keep their bits." For the block and reset, and for the end of every setting; proofs/RefusedSettings.antt has the settings. Assumes nothing.
use mathlib.Core.List.{List}
use mathlib.Core.Path.{◌≡◌, refl}
use Prim.Native.Nat.{ℕ}
use native.Mathlib.Omega.{arith}
use lib.Ieee.{Float}
use lib.ListN.{length}
use Rattle.error.specs.Refusals.{Said, given, refused}
use Rattle.state.specs.declared.State.{State}
use Rattle.asynchro.specs.Calls.{end_of}
use Rattle.plan.specs.Plan.{planned, resetting}
use Rattle.process.specs.Block.{block_end, block_of, reset_end, reset_of}

module _ (s : State) (n : ℕ) (vs : List Float) where
  -- the end of every setting
  pub end_refused : (d : Said State) → (end_of s d).said ≡ refused n vs → (end_of s d).state ≡ s
  end_refused (given t) e = absurd (let z : ◌≡◌ {A = ℕ} 0 1 = cc in omega arith)
  end_refused (refused m ws) e = refl

  -- the block: the record, the output area and the working area
  module _ (frames mask : ℕ) (table input output work : List Float) where
    ended : (d : Said State) → (block_end s frames mask table input output work d).said ≡ refused n vs
        → ((block_end s frames mask table input output work d).state ≡ s) × ((block_end s frames mask table input output work d).output ≡ output) × ((block_end s frames mask table input output work d).work ≡ work)
    ended (given t) e = absurd (let z : ◌≡◌ {A = ℕ} 0 1 = cc in omega arith)
    ended (refused m ws) e = (refl, refl, refl)

    pub block_refused : (block_of s frames mask table input output work).said ≡ refused n vs
        → ((block_of s frames mask table input output work).state ≡ s) × ((block_of s frames mask table input output work).output ≡ output) × ((block_of s frames mask table input output work).work ≡ work)
    block_refused e = ended (planned s frames mask (length table) (length input) (length output) (length work)) e

  -- reset: the record and the working area
  module _ (work : List Float) where
    reset_ended : (d : Said State) → (reset_end s work d).said ≡ refused n vs → ((reset_end s work d).state ≡ s) × ((reset_end s work d).work ≡ work)
    reset_ended (given t) e = absurd (let z : ◌≡◌ {A = ℕ} 0 1 = cc in omega arith)
    reset_ended (refused m ws) e = (refl, refl)

    pub reset_refused : (reset_of s work).said ≡ refused n vs → ((reset_of s work).state ≡ s) × ((reset_of s work).work ≡ work)
    reset_refused e = reset_ended (resetting s (length work)) e
