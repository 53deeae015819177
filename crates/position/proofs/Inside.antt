-- What an accepted block leaves passes the StateRecord test: its index is finite and strictly between -2 ^ 17 and 2 ^ 17. Assumes nothing.
use mathlib.Core.Bool.{true}
use mathlib.Core.Path.{◌≡◌}
use Prim.Native.Nat.{ℕ}
use lib.Ieee.Bits.{is_true}
use Rattle.error.specs.Refusals.{given}
use Rattle.state.specs.declared.State.{State}
use Rattle.sizes.specs.Bounds.{is_index}
use Rattle.state.specs.Record.{is_state}
use Rattle.plan.specs.Plan.{after_block, planned}
use Rattle.plan.proofs.Keeps.{block_keeps}
use Rattle.position.proofs.Tests.{Double, index_is}
use Rattle.position.proofs.Accepted.{Passed, passed, moved}

module _ (s t : State) (frames mask table input output work : ℕ) (d : Double s.index) (e : planned s frames mask table input output work ≡ given t) where
  abbrev known : Passed s t
  known = passed s t frames mask table input output work e

  after_inside : is_index (after_block s).index ≡ true
  after_inside = let m = moved s d known.state known.reach in is_true _ (index_is (after_block s).index m.number m.inside)

  pub block_leaves_state : is_state t ≡ true
  block_leaves_state = block_keeps s t frames mask table input output work after_inside e
