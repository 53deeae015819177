-- One call keeps the bound, and so do any calls. In units of 2 ^ -1074. Assumes nothing.
use mathlib.Core.List.{List, [], ◌∷◌}
use mathlib.Core.Path.{◌≡◌, refl, sym, ap, subst}
use Prim.Native.Nat.{ℕ, ◌+◌, ◌*◌, ◌^◌}
use native.Mathlib.Omega.{arith}
use lib.Ieee.{Float, binary64}
use lib.ListN.{length}
use Rattle.exact.specs.Whole.{Whole, ◌⊕◌, Within}
use Rattle.exact.specs.Exact.{exact}
use Rattle.error.specs.Refusals.{Said, given, refused}
use Rattle.state.specs.declared.State.{State}
use Rattle.plan.specs.Plan.{after_block, planned}
use Rattle.process.specs.Block.{sizes_of, block_end}
use Rattle.position.specs.History.{Call, ratio, relative, chunk, block, left_by}
use Rattle.position.specs.Position.{Account, opened, exact_move, ramp_of, added, accounted, ledger, stored, bound}
use Rattle.position.proofs.Tests.{Double}
use Rattle.position.proofs.Accepted.{Passed, passed, moved}
use Rattle.position.proofs.Keeps.{ratio_index, relative_index, chunk_index, block_double}

-- a record and an account that keep the bound, the index being a double
pub record Near (s : State) (a : Account) : Type 0 where
  pub double : Double s.index
  pub near : Within (bound (record { state = s; account = a })) (stored (record { state = s; account = a })) a.exactly

-- the same with the index named
abbrev Off : State → Account → Float → Type 0
Off s a x = Within (bound (record { state = s; account = a })) ((a.inputs * 2 ^ 1074, 0) ⊕ exact binary64 x) a.exactly

-- at the start nothing is added up
pub opened_near : (s : State) → Double s.index → Near s (opened s)
opened_near s d = record { double = d; near = none (2 ^ 1037) (2 ^ 1074) (exact binary64 s.index) }
  where
    none : (K U : ℕ) (i : Whole) → Within ((0 + 0) * K + 0) ((0 * U, 0) ⊕ i) i
    none K U i = omega arith

-- a setting leaves the index and the account
set_near : (s t : State) (a : Account) → Near s a → t.index ≡ s.index → Near t a
set_near s t a n e = record { double = subst Double (sym e) n.double; near = subst (Off t a) (sym e) n.near }

-- a block adds its frames, itself, its input size, its ramp and its exact move
grown : (K U frames blocks ramps inputs n c w : ℕ) (e i y m : Whole) → Within ((frames + blocks) * K + ramps) ((inputs * U, 0) ⊕ i) e → Within ((n + 1) * K + w) ((c * U, 0) ⊕ y) (i ⊕ m)
    → Within ((frames + n + (blocks + 1)) * K + (ramps + w)) (((inputs + c) * U, 0) ⊕ y) (e ⊕ m)
grown K U frames blocks ramps inputs n c w e i y m h k = omega arith

given_near : (s t : State) (a : Account) → Near s a → Passed s t → Near t (added s a (given (sizes_of s)))
given_near s t a n p =
    let m = moved s n.double p.state p.reach in
    record {
      double = block_double s t p;
      near = subst (Off t (added s a (given (sizes_of s)))) (sym (ap (λ (r : State). r.index) p.left))
          (grown (2 ^ 1037) (2 ^ 1074) a.frames a.blocks a.ramps a.inputs s.output s.input (ramp_of s s.output)
          a.exactly (exact binary64 s.index) (exact binary64 (after_block s).index) (exact_move s s.output) n.near m.near);
    }

block_near : (s : State) (a : Account) (frames mask : ℕ) (table input output work : List Float) (r : Said State) → planned s frames mask (length table) (length input) (length output) (length work) ≡ r → Near s a
    → Near (block_end s frames mask table input output work r).state (added s a (block_end s frames mask table input output work r).said)
block_near s a frames mask table input output work (given t) e n = given_near s t a n (passed s t frames mask (length table) (length input) (length output) (length work) e)
block_near s a frames mask table input output work (refused k vs) e n = n

-- ---- one call, and any calls
pub call_near : (s : State) (a : Account) (c : Call) → Near s a → Near (left_by s c) (accounted s a c)
call_near s a (ratio r ramp) n = set_near s _ a n (ratio_index s r ramp)
call_near s a (relative rel ramp) n = set_near s _ a n (relative_index s rel ramp)
call_near s a (chunk k) n = set_near s _ a n (chunk_index s k)
call_near s a (block frames mask table input output work) n = block_near s a frames mask table input output work _ refl n

pub calls_near : (s : State) (a : Account) (cs : List Call) → Near s a → Near (ledger s a cs).state (ledger s a cs).account
unfolding ledger
calls_near s a [] n = n
calls_near s a (c ∷ cs) n = calls_near (left_by s c) (accounted s a c) cs (call_near s a c n)
