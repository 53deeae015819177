-- Reach from the front, in one pass: what a computed case of many frames uses. By its definition, which goes from the back, the cost is quadratic. Assumes nothing.
use mathlib.Core.Bool.{Bool, true, ◌&&◌, and-true, and_assoc}
use mathlib.Core.Path.{◌≡◌, refl, sym, ap, ◌∙◌}
use Prim.Native.Nat.{ℕ, zero, suc}
use lib.Ieee.{Float}
use Rattle.exact.specs.Doubles.{◌+f◌}
use Rattle.path.specs.declared.Moment.{Moment}
use Rattle.path.specs.Path.{step_index, path_at}
use Rattle.kinds.specs.declared.Kind.{Kind}
use Rattle.grid_places.specs.Spots.{spot_from}
use Rattle.path.specs.Places.{place_from}
use Rattle.path.specs.Sites.{site_of, reached, all_reach}

unfoldable pub reach_from : Kind → ℕ → Float → Float → Float → ℕ → Bool
unfolding place_from spot_from
reach_from kind needed t d i zero = true
reach_from kind needed t d i (suc n) =
    let u = t +f d in
    let j = i +f u in
    reached (site_of kind needed j) && reach_from kind needed u d j n

-- one frame later, from where the first frame left off
path_shift : (t d i : Float) (f : ℕ) → path_at (t +f d) d (i +f (t +f d)) f ≡ path_at t d i (suc f)
unfolding path_at
path_shift t d i zero = refl
path_shift t d i (suc f) = ap (step_index d) (path_shift t d i f)

module _ (kind : Kind) (needed : ℕ) where
  reach_shift : (t d i : Float) (f : ℕ)
      → (reached (site_of kind needed (i +f (t +f d))) && all_reach kind needed (t +f d) d (i +f (t +f d)) f) ≡ all_reach kind needed t d i (suc f)
  unfolding all_reach path_at
  reach_shift t d i zero = and-true (reached (site_of kind needed (i +f (t +f d))))
  reach_shift t d i (suc f) =
      let u = t +f d in
      let j = i +f u in
      let b = reached (site_of kind needed (path_at u d j (suc f)).index) in
      sym (and_assoc (reached (site_of kind needed j)) (all_reach kind needed u d j f) b)
      ∙ ap (λ (a : Bool). a && b) (reach_shift t d i f)
      ∙ ap (λ (m : Moment). all_reach kind needed t d i (suc f) && reached (site_of kind needed m.index)) (path_shift t d i (suc f))

  pub reach_from_lem : (t d i : Float) (n : ℕ) → reach_from kind needed t d i n ≡ all_reach kind needed t d i n
  unfolding reach_from all_reach
  reach_from_lem t d i zero = refl
  reach_from_lem t d i (suc n) =
      ap (λ (b : Bool). reached (site_of kind needed (i +f (t +f d))) && b) (reach_from_lem (t +f d) d (i +f (t +f d)) n) ∙ reach_shift t d i n
