-- Document 01: "No refusal, size or index depends on a sample." Two blocks on one record whose tables and areas have the same lengths leave the same record and say the same, whatever the samples and the tables' entries. Assumes nothing.
use mathlib.Core.List.{List}
use mathlib.Core.Path.{◌≡◌, refl}
use Prim.Native.Nat.{ℕ}
use lib.Ieee.{Float}
use lib.ListN.{length}
use Rattle.error.specs.Refusals.{Said, given, refused}
use Rattle.state.specs.declared.State.{State}
use Rattle.plan.specs.Plan.{planned, resetting}
use Rattle.process.specs.Block.{block_end, block_of, reset_end, reset_of}

module _ (s : State) (frames mask : ℕ) (table table' input input' output output' work work' : List Float) where
  -- the end of a block by what was planned
  ends : (p : Said State) → ((block_end s frames mask table input output work p).state ≡ (block_end s frames mask table' input' output' work' p).state)
      × ((block_end s frames mask table input output work p).said ≡ (block_end s frames mask table' input' output' work' p).said)
  ends (given t) = (refl, refl)
  ends (refused n vs) = (refl, refl)

  pub blind : length table ≡ length table' → length input ≡ length input' → length output ≡ length output' → length work ≡ length work'
      → ((block_of s frames mask table input output work).state ≡ (block_of s frames mask table' input' output' work').state)
      × ((block_of s frames mask table input output work).said ≡ (block_of s frames mask table' input' output' work').said)
  blind t i o w = rw (t, i, o, w) (ends (planned s frames mask (length table') (length input') (length output') (length work')))

-- the same of a reset
module _ (s : State) (work work' : List Float) where
  reset_ends : (p : Said State) → ((reset_end s work p).state ≡ (reset_end s work' p).state) × ((reset_end s work p).said ≡ (reset_end s work' p).said)
  reset_ends (given t) = (refl, refl)
  reset_ends (refused n vs) = (refl, refl)

  pub blind_reset : length work ≡ length work' → ((reset_of s work).state ≡ (reset_of s work').state) × ((reset_of s work).said ≡ (reset_of s work').said)
  blind_reset w = rw w (reset_ends (resetting s (length work')))
