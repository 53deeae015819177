-- Document 01: "Reach is given exactly when some frame's neighbours, masks disregarded, lie below 0 or at or past 2L+needed input." Document 02, R-4: "Reach covers every grid point's samples". Assumes nothing.
use Rattle.std.specs.Prelude.{is_some}
use mathlib.Core.Bool.{Bool, true, false}
use mathlib.Core.List.{List, []}
use mathlib.Core.Logic.{◌↔◌}
use mathlib.Core.Path.{◌≡◌, refl, sym, ap, subst}
use Prim.Native.Nat.{ℕ, ◌<◌}
use native.Mathlib.Omega.{arith}
use lib.Dec.{T}
use lib.Ieee.{Float, binary64, fits}
use lib.ListN.{length}
use Rattle.error.specs.Refusals.{Said, given, refused, unless}
use Rattle.error.proofs.Ladder.{pass, stop}
use Rattle.interpolation.specs.declared.Point.{Point}
use Rattle.asynchro_sinc.specs.declared.SincInterpolationType.{SincInterpolationType}
use Rattle.kinds.specs.declared.Kind.{Kind}
use Rattle.kinds.specs.declared.Kind.TheVariants.{Sinc}
use Rattle.kinds.specs.Kinds.{sinc_holds, kind_holds}
use Rattle.grid_places.specs.Spots.{grid_of}
use Rattle.grid_places.proofs.Grid.{points_of, range_points}
use Rattle.state.specs.declared.State.{State}
use Rattle.state.specs.Record.{input_of, output_of, max_input_of, is_state, update_lengths}
use Rattle.state.proofs.Checked.{kind_of, check_pass, rung, check_else}
use Rattle.sizes.specs.Sizes.{frames_of, size_at_least}
use Rattle.shape.specs.Shape.{shape_holds}
use Rattle.plan.specs.Plan.{reach_holds, after_block, planned}
use Rattle.process.specs.Block.{block_end, block_of}
use Rattle.theorems.specs.Block.{index_at, SomeOutside}
use Rattle.theorems.proofs.Indices.{index_range, some_outside, outside_some}

-- ---- document 02, R-4: the grid functions never answer 11 inside a block. In no block of a sinc that passes the StateRecord test, accepted or refused, is a frame without its grid points
pub grid_answers : (s : State) → T (fits binary64 s.index) → is_state s ≡ true → (points factor : ℕ) (blend : SincInterpolationType) → s.kind ≡ Sinc points factor blend
    → (f : ℕ) → f < s.output → (ps : List Point) × (grid_of blend (index_at s f) factor ≡ given ps)
grid_answers s q h points factor blend e f l =
    let k : sinc_holds points factor ≡ true = subst (λ (z : Kind). kind_holds z ≡ true) e (kind_of s h) in
    (points_of blend (index_at s f) factor, range_points blend (index_at s f) factor (index_range s q h f l points factor k))

-- ---- the block is refused 9 just where the first test to fail is that of Reach
sizes_not_9 : (s : State) → update_lengths s ≡ refused 9 [] → ⊥
unfolding update_lengths
sizes_not_9 s e =
    let a = rung (is_some (input_of s)) 6 9 [] [] _ (λ z. omega arith) e in
    let b = rung (is_some (output_of s)) 6 9 [] [] _ (λ z. omega arith) a.1 in
    let c = rung (size_at_least (max_input_of s) (frames_of (input_of s))) 6 9 [] [] _ (λ z. omega arith) b.1 in
    let d = c.1 in
    absurd (let z : ◌≡◌ {A = ℕ} 0 1 = cc in omega arith)

module _ (s : State) (frames mask table input output work : ℕ) where
  planned_9 : planned s frames mask table input output work ≡ refused 9 [] → (is_state s ≡ true) × (shape_holds s frames mask table input output work ≡ true) × (reach_holds s ≡ false)
  unfolding planned unless
  planned_9 e =
      let a = check_else s _ 9 [] (λ z. omega arith) (λ z. omega arith) e in
      let b = rung (shape_holds s frames mask table input output work) 8 9 [] [] _ (λ z. omega arith) a.1 in
      (a.0, b.0, go (reach_holds s) (after_block s) b.1)
    where
      go : (r : Bool) (d : State) → unless r 9 [] (update_lengths d) ≡ refused 9 [] → r ≡ false
      go false d e = refl
      go true d e = absurd (sizes_not_9 d e)

  nine_planned : (is_state s ≡ true) × (shape_holds s frames mask table input output work ≡ true) × (reach_holds s ≡ false) → planned s frames mask table input output work ≡ refused 9 []
  unfolding planned
  nine_planned h = sym (check_pass s _ _ h.0 (pass _ _ _ _ _ h.1 (stop _ _ _ _ h.2)))

-- ---- the block is refused 9 exactly when 11, 10 and 8 are not given and some frame's samples lie outside: a kernel's neighbours, or those of one of a sinc's grid points. `fits binary64` says that the index is a double, as every f64 of the code is
module _ (s : State) (frames mask : ℕ) (table input output work : List Float) where
  said_refused : (p : Said State) (n : ℕ) (vs : List Float) → (block_end s frames mask table input output work p).said ≡ refused n vs → p ≡ refused n vs
  said_refused (given t) n vs e = absurd (let z : ◌≡◌ {A = ℕ} 0 1 = cc in omega arith)
  said_refused (refused m ws) n vs e =
      let a : m ≡ n = cc in
      let b : ws ≡ vs = cc in
      rw (a, b)

  pub reach_exactly : T (fits binary64 s.index) → ((block_of s frames mask table input output work).said ≡ refused 9 [])
      ↔ ((is_state s ≡ true) × (shape_holds s frames mask (length table) (length input) (length output) (length work) ≡ true) × SomeOutside s)
  reach_exactly q =
      let lens = planned s frames mask (length table) (length input) (length output) (length work) in (
        (λ e. let h = planned_9 s frames mask (length table) (length input) (length output) (length work) (said_refused lens 9 [] e) in (h.0, h.1, some_outside s q h.0 h.2)),
        (λ h. ap (λ (p : Said State). (block_end s frames mask table input output work p).said)
            (nine_planned s frames mask (length table) (length input) (length output) (length work) (h.0, h.1, outside_some s h.2))),
      )
