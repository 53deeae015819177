-- What `cut::kept` keeps of an accepted block: just the frames whose exact position lies from -2^-20 up to, and not including, N - 2^-20, N being the number of input frames. Assumes nothing.
-- A frame's position is the input frames used before the block plus the frame's index. In units of 2^-1074: a pair (a, b) of natural numbers stands for a - b.
use mathlib.Core.Bool.{true, false}
use mathlib.Core.List.{List}
use mathlib.Core.Logic.{◌↔◌}
use mathlib.Core.Path.{◌≡◌, refl}
use Prim.Native.Nat.{ℕ, ◌*◌, ◌^◌, ◌≤◌, ◌<◌}
use native.Mathlib.Nat.{le_of_suc-le-suc, lt_of_not-le}
use native.Mathlib.Omega.{arith}
use lib.Ieee.{Float, binary64}
use lib.ListN.{length}
use Rattle.exact.specs.Whole.{Whole, ◌⊕◌, Less, AtMost}
use Rattle.exact.specs.Exact.{exact}
use Rattle.error.specs.Refusals.{Said, given, refused}
use Rattle.state.specs.declared.State.{State}
use Rattle.state.specs.Record.{is_state}
use Rattle.plan.specs.Plan.{reach_holds, planned}
use Rattle.process.specs.declared.Sizes.{Sizes}
use Rattle.process.specs.Block.{block_end, block_of}
use Rattle.position.proofs.Accepted.{passed}
use Rattle.cut.specs.Cut.{kept_of}
use Rattle.cut.specs.Positions.{position_of, edge_of, Leads}
use Rattle.cut.proofs.Frames.{kept_from, kept_to}
use Rattle.theorems.specs.Block.{index_at}
use Rattle.theorems.proofs.Rising.{path_rises}

-- a record that passes the StateRecord test and whose frames Reach finds inside: every accepted block's, by `accepted_passes` below
module _ (s : State) (used : ℕ) (a : is_state s ≡ true) (b : reach_holds s ≡ true) where
  -- no frame lies before an earlier one
  pub positions_rise : (k m : ℕ) → k ≤ m → m < s.output → AtMost (position_of s used k) (position_of s used m)
  positions_rise k m h l = shifted (used * 2 ^ 1074) (exact binary64 (index_at s k)) (exact binary64 (index_at s m)) (path_rises s a b k m h l)
    where
      shifted : (u : ℕ) (v w : Whole) → AtMost v w → AtMost ((u, 0) ⊕ v) ((u, 0) ⊕ w)
      shifted u v w h = omega arith

  -- so the leading frames before an edge are all that lie before it
  leads_just : (edge n : ℕ) → Leads s used edge n → (k : ℕ) → k < s.output → (k < n) ↔ Less (position_of s used k) (edge_of edge)
  leads_just edge n h k l = (h.each k, λ p. lt_of_not-le (λ (q : n ≤ k). past _ _ _ (h.next (omega arith)) (positions_rise n k q l) p))
    where
      past : (u v w : Whole) → AtMost u v → AtMost v w → Less w u → ⊥
      past u v w p q r = omega arith

  leads_else : (edge n : ℕ) → Leads s used edge n → (k : ℕ) → k < s.output → (n ≤ k) ↔ AtMost (edge_of edge) (position_of s used k)
  leads_else edge n h k l =
      let j = leads_just edge n h k l in
      ((λ p. at_most _ _ (λ q. clash (j.1 q) p)), λ p. le_of_suc-le-suc (lt_of_not-le (λ q. above _ _ p (j.0 q))))
    where
      at_most : (v w : Whole) → (Less v w → ⊥) → AtMost w v
      at_most v w n = le_of_suc-le-suc (lt_of_not-le n)

      clash : k < n → n ≤ k → ⊥
      clash p q = omega arith

      above : (v w : Whole) → AtMost v w → Less w v → ⊥
      above v w p q = omega arith

  -- ---- once the input has ended: N is `total`
  pub kept_just : (total k : ℕ) → k < s.output
      → (((kept_of s used true total).from ≤ k) × (k < (kept_of s used true total).to)) ↔ (AtMost (edge_of 0) (position_of s used k) × Less (position_of s used k) (edge_of total))
  kept_just total k l =
      let f = leads_else 0 (kept_of s used true total).from (kept_from s used total a b true) k l in
      let t = leads_just total (kept_of s used true total).to (kept_to s used total a b) k l in
      ((λ h. (f.0 h.0, t.0 h.1)), λ h. (f.1 h.0, t.1 h.1))

  -- ---- before that the block's last frames are kept too
  pub kept_open_just : (total k : ℕ) → k < s.output → (((kept_of s used false total).from ≤ k) × (k < (kept_of s used false total).to)) ↔ AtMost (edge_of 0) (position_of s used k)
  kept_open_just total k l = let f = leads_else 0 (kept_of s used false total).from (kept_from s used total a b false) k l in ((λ h. f.0 h.0), λ h. (f.1 h, l))

-- ---- an accepted block has passed the two tests
pub accepted_passes : (s : State) (frames mask : ℕ) (table input output work : List Float) (u : Sizes) → (block_of s frames mask table input output work).said ≡ given u → (is_state s ≡ true) × (reach_holds s ≡ true)
accepted_passes s frames mask table input output work u e = go (planned s frames mask (length table) (length input) (length output) (length work)) refl e
  where
    go : (p : Said State) → planned s frames mask (length table) (length input) (length output) (length work) ≡ p → (block_end s frames mask table input output work p).said ≡ given u
        → (is_state s ≡ true) × (reach_holds s ≡ true)
    go (refused n vs) q h = absurd (let x : ◌≡◌ {A = ℕ} 0 1 = cc in omega arith)
    go (given t) q h = let p = passed s t frames mask (length table) (length input) (length output) (length work) q in (p.state, p.reach)
