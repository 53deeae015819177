-- Along a history only a block moves the index, and the index stays a double. Assumes nothing.
use mathlib.Core.Bool.{Bool, ◌&&◌}
use mathlib.Core.List.{List}
use mathlib.Core.Path.{◌≡◌, refl, sym, ap, ◌∙◌, subst}
use Prim.Native.Nat.{ℕ}
use native.Mathlib.Omega.{arith}
use lib.Dec.{leb}
use lib.Ieee.{Float, binary64}
use lib.ListN.{length}
use lib.Ieee.Fits.{neg-fits, sub-fits, div-fits}
use Rattle.exact.specs.Doubles.{◌*f◌, ◌/f◌, count, above_zero, at_least_one, two_f}
use Rattle.error.specs.Refusals.{Said, given, refused}
use Rattle.state.specs.declared.State.{State}
use Rattle.sizes.specs.Bounds.{is_ratio, is_channels}
use Rattle.sizes.specs.Sizes.{start_of}
use Rattle.kinds.specs.Kinds.{kind_holds}
use Rattle.state.specs.Record.{points_in, maxima_hold, update_lengths}
use Rattle.state.proofs.Checked.{check_accepted}
use Rattle.construction.specs.Construction.{fresh_state, with_fill, filled, first_lengths, construct}
use Rattle.asynchro.specs.Calls.{end_of, relative_holds, with_ratio, applied, set_ratio, set_relative, with_chunk, chunked, set_chunk}
use Rattle.error.proofs.Ladder.{accepted, same_given}
use Rattle.shape.specs.Shape.{work_holds}
use Rattle.plan.specs.Plan.{index_after, restored, resetting}
use Rattle.process.specs.Block.{reset_end}
use Rattle.position.specs.History.{Start, constructed, restarted}
use Rattle.position.proofs.Tests.{Double}
use Rattle.position.proofs.Accepted.{sizes_given, Passed}

-- ---- a setting, accepted or refused, leaves the index
-- the end of every call changes the sizes only
ended : (s t : State) → update_lengths s ≡ given t → t.index ≡ s.index
ended s t e = ap (λ (r : State). r.index) (sizes_given s t e)

end_index : (s : State) (r : Said State) → ((t : State) → r ≡ given t → t.index ≡ s.index) → (end_of s r).state.index ≡ s.index
end_index s (given t) k = k t refl
end_index s (refused n vs) k = refl

applied_index : (s t : State) (ok : Bool) (r : Float) (ramp : Bool) → applied s ok r ramp ≡ given t → t.index ≡ s.index
applied_index s t ok r ramp e =
    let a = check_accepted s _ t e in
    let b = accepted ok _ _ _ t a.1 in
    let c = accepted (is_ratio r) _ _ _ t b.1 in
    ended (with_ratio s r ramp) t c.1

pub ratio_index : (s : State) (r : Float) (ramp : Bool) → (set_ratio s r ramp).state.index ≡ s.index
ratio_index s r ramp = end_index s (applied s (relative_holds s.m (r /f s.original)) r ramp) (λ t e. applied_index s t _ r ramp e)

pub relative_index : (s : State) (rel : Float) (ramp : Bool) → (set_relative s rel ramp).state.index ≡ s.index
relative_index s rel ramp =
    end_index s (applied s (above_zero (s.original *f rel) && relative_holds s.m rel) (s.original *f rel) ramp) (λ t e. applied_index s t _ (s.original *f rel) ramp e)

pub chunk_index : (s : State) (n : ℕ) → (set_chunk s n).state.index ≡ s.index
chunk_index s n = end_index s (chunked s n) (λ t e.
    let a = check_accepted s _ t e in
    let b = accepted (leb 1 n && leb n s.chunk0) _ _ _ t a.1 in
    ended (with_chunk s n) t b.1)

-- ---- the index that an accepted block leaves is a difference, rounded
pub block_double : (s t : State) → Passed s t → Double t.index
block_double s t p = subst (λ (r : State). Double r.index) (sym p.left) (sub-fits binary64 (index_after s) (count s.input))

-- ---- the index that a history starts with is a quotient, rounded, and its sign changed
start_double : (l : ℕ) → Double (start_of l)
start_double l = neg-fits binary64 (count l /f two_f) (div-fits binary64 (count l) two_f)

never : {A : Type 0} (n : ℕ) (vs : List Float) (a : A) → refused n vs ≡ given a → ⊥
never n vs a e = let z : ◌≡◌ {A = ℕ} 0 1 = cc in omega arith

filled_index : (r : Said State) (s : State) (i : Float) → ((t : State) → r ≡ given t → t.index ≡ i) → filled r ≡ given s → s.index ≡ i
filled_index (given t) s i k e = ap (λ (r : State). r.index) (sym (same_given (with_fill t t.input) s e)) ∙ k t refl
filled_index (refused n vs) s i k e = absurd (never n vs s e)

reset_index : (s : State) (work : List Float) (r : Said State) (i : Float) → ((t : State) → r ≡ given t → t.index ≡ i) → (reset_end s work r).said ≡ given tt → (reset_end s work r).state.index ≡ i
reset_index s work (given t) i k e = k t refl
reset_index s work (refused n vs) i k e = absurd (never n vs tt e)

pub start_index : (s : State) → Start s → Double s.index
unfolding construct first_lengths resetting
start_index s (constructed r m kind c channels fixed s' e) =
    let f = fresh_state r m kind c channels fixed in
    let k0 = accepted (kind_holds kind) _ _ _ s' e in
    let k1 = accepted (above_zero r) _ _ _ s' k0.1 in
    let k2 = accepted (at_least_one m) _ _ _ s' k1.1 in
    let k3 = accepted (leb 1 c) _ _ _ s' k2.1 in
    let k5 = accepted (is_ratio r) _ _ _ s' k3.1 in
    let k7 = accepted (is_channels channels) _ _ _ s' k5.1 in
    let k6 = accepted (maxima_hold f) _ _ _ s' k7.1 in
    subst Double (sym (filled_index (update_lengths f) s' (start_of (points_in f)) (ended f) k6.1)) (start_double (points_in f))
start_index s (restarted s' work e) =
    let i = reset_index s' work (resetting s' (length work)) (start_of (points_in s')) (λ t g.
    let a = check_accepted s' _ t g in
    let b = accepted (work_holds s' (length work)) _ _ _ t a.1 in
    ended (restored s') t b.1) e in
    subst Double (sym i) (start_double (points_in s'))
