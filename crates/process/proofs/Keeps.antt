-- What an accepted reset leaves passes the StateRecord test. Assumes nothing.
use mathlib.Core.Bool.{true}
use mathlib.Core.List.{List}
use mathlib.Core.Path.{◌≡◌, refl}
use Prim.Native.Nat.{ℕ}
use native.Mathlib.Omega.{arith}
use lib.Ieee.{Float}
use lib.ListN.{length}
use Rattle.error.specs.Refusals.{Said, given, refused}
use Rattle.state.specs.declared.State.{State}
use Rattle.state.specs.Record.{is_state}
use Rattle.plan.specs.Plan.{resetting}
use Rattle.plan.proofs.Keeps.{reset_keeps}
use Rattle.process.specs.Block.{reset_end, reset_of}

pub reset_leaves : (s : State) (work : List Float) → (reset_of s work).said ≡ given tt → is_state (reset_of s work).state ≡ true
reset_leaves s work e = go (resetting s (length work)) refl e
  where
    go : (d : Said State) → resetting s (length work) ≡ d → (reset_end s work d).said ≡ given tt → is_state (reset_end s work d).state ≡ true
    go (given t) p e = reset_keeps s t (length work) p
    go (refused n vs) p e = absurd (let z : ◌≡◌ {A = ℕ} 0 1 = cc in omega arith)
