-- Along a history every record passes the StateRecord test, so that none of its calls is refused 10. Assumes nothing.
use mathlib.Core.Bool.{true}
use mathlib.Core.List.{List, [], ◌∷◌}
use mathlib.Core.Path.{◌≡◌, refl}
use Prim.Native.Nat.{ℕ}
use lib.Ieee.{Float}
use lib.ListN.{length}
use Rattle.error.specs.Refusals.{Said, given, refused}
use Rattle.state.specs.declared.State.{State}
use Rattle.state.specs.Record.{is_state}
use Rattle.asynchro.proofs.Keeps.{ratio_keeps, relative_keeps, chunk_keeps}
use Rattle.construction.proofs.Keeps.{construct_keeps}
use Rattle.plan.specs.Plan.{planned}
use Rattle.process.specs.Block.{block_end}
use Rattle.process.proofs.Keeps.{reset_leaves}
use Rattle.position.specs.History.{Start, constructed, restarted, Call, ratio, relative, chunk, block, left_by}
use Rattle.position.specs.Position.{Account, opened, accounted, ledger}
use Rattle.position.proofs.Tests.{Double}
use Rattle.position.proofs.Keeps.{start_index}
use Rattle.position.proofs.Inside.{block_leaves_state}
use Rattle.position.proofs.Ledgers.{Near, opened_near, call_near}

block_state : (s : State) (frames mask : ℕ) (table input output work : List Float) (r : Said State) → planned s frames mask (length table) (length input) (length output) (length work) ≡ r → Double s.index → is_state s ≡ true
    → is_state (block_end s frames mask table input output work r).state ≡ true
block_state s frames mask table input output work (given t) e d h = block_leaves_state s t frames mask (length table) (length input) (length output) (length work) d e
block_state s frames mask table input output work (refused k vs) e d h = h

call_state : (s : State) (c : Call) → Double s.index → is_state s ≡ true → is_state (left_by s c) ≡ true
call_state s (ratio r ramp) d h = ratio_keeps s r ramp h
call_state s (relative rel ramp) d h = relative_keeps s rel ramp h
call_state s (chunk n) d h = chunk_keeps s n h
call_state s (block frames mask table input output work) d h = block_state s frames mask table input output work _ refl d h

calls_state : (s : State) (a : Account) (cs : List Call) → Near s a → is_state s ≡ true → is_state (ledger s a cs).state ≡ true
unfolding ledger
calls_state s a [] n h = h
calls_state s a (c ∷ cs) n h = calls_state (left_by s c) (accounted s a c) cs (call_near s a c n) (call_state s c n.double h)

start_state : (s : State) → Start s → is_state s ≡ true
start_state s (constructed r m kind c channels fixed s' e) = construct_keeps r m kind c channels fixed s' e
start_state s (restarted s' work e) = reset_leaves s' work e

pub lasting : (s : State) → Start s → (cs : List Call) → is_state (ledger s (opened s) cs).state ≡ true
lasting s start cs = calls_state s (opened s) cs (opened_near s (start_index s start)) (start_state s start)
