-- The grid functions of the four blends by one form, and what fits: every grid point's row lies in the table and its samples in the working area. Assumes nothing.
use Rattle.std.proofs.Common.{Option, Some, ◌≡◌, ℕ, zero, suc, ◌+◌, ◌-◌, ◌*◌, ◌<◌, ◌≤◌, Bool, true, false, ◌&&◌, leb, List, [], ◌∷◌, map, ℤ, pos, negsuc, ◌+ℤ◌, sym, refl, ◌∙◌, subst, mul-le-mul_right, arith, lit<, leb-true}
use lib.Ieee.{Float}
use Rattle.error.specs.Refusals.{Said, given, unless}
use Rattle.error.proofs.Ladder.{pass, both}
use Rattle.interpolation.specs.Grid.{in_range, point_of, q_of, grid_said}
use Rattle.interpolation.specs.Steps.{whole_by}
use Rattle.interpolation.specs.declared.Point.{Point}
use Rattle.interpolation.proofs.Points.{point_equation}
use Rattle.interpolation.proofs.Range.{in_range_one}
use Rattle.asynchro_sinc.specs.declared.SincInterpolationType.{SincInterpolationType}
use Rattle.asynchro_sinc.specs.declared.SincInterpolationType.TheVariants.{Nearest, Linear, Quadratic, Cubic}
use Rattle.grid_places.specs.declared.Spot.{Spot}
use Rattle.grid_places.specs.Spots.{within, spot_from, spot_of, grid_of, blend_place, nth, blended, spots_said, spots_of, is_held, all_held}
use Rattle.grid_places.specs.Turns.{Fits, FitAll}

-- ---- the blends' grid functions by one form
-- the least factor
abbrev pub least_of : SincInterpolationType → ℕ
least_of Nearest = 1
least_of Linear = 1
least_of Quadratic = 3
least_of Cubic = 3

-- whether the parts are rounded to the nearest
abbrev pub nearest_of : SincInterpolationType → Bool
nearest_of Nearest = true
nearest_of Linear = false
nearest_of Quadratic = false
nearest_of Cubic = false

-- the points' numbers, from q on
abbrev pub offsets_of : SincInterpolationType → List ℤ
offsets_of Nearest = pos 0 ∷ []
offsets_of Linear = pos 0 ∷ pos 1 ∷ []
offsets_of Quadratic = pos 0 ∷ pos 1 ∷ pos 2 ∷ []
offsets_of Cubic = negsuc 0 ∷ pos 0 ∷ pos 1 ∷ pos 2 ∷ []

abbrev pub number_of : SincInterpolationType → Float → ℕ → ℤ
number_of blend x factor = q_of (whole_by (nearest_of blend)) x factor

abbrev pub points_of : SincInterpolationType → Float → ℕ → List Point
points_of blend x factor = map (λ o. point_of factor (number_of blend x factor +ℤ o)) (offsets_of blend)

pub grid_is : (blend : SincInterpolationType) (x : Float) (factor : ℕ) → grid_of blend x factor ≡ unless (in_range (least_of blend) x factor) 11 [] (given (points_of blend x factor))
unfolding grid_said
grid_is Nearest x factor = refl
grid_is Linear x factor = refl
grid_is Quadratic x factor = refl
grid_is Cubic x factor = refl

-- ---- what fits, of l samples in n and a table of m
module _ (l n m : ℕ) where
  within_fit : (b : Bool) (start row : ℕ) → (b ≡ true → start + l ≤ n) → row * l + l ≤ m → Fits l n m (within b start row)
  within_fit true start row h k = (h refl, k)
  within_fit false start row h k = tt

  spot_fit : (shift last : ℕ) (z : ℤ) (row : ℕ) → last + l ≤ n → row * l + l ≤ m → Fits l n m (spot_from shift last z row)
  unfolding spot_from
  spot_fit shift last (pos k) row h r = within_fit (leb (k + shift) last) (k + shift) row (λ t. omega (arith, leb-true (k + shift) last t)) r
  spot_fit shift last (negsuc k) row h r =
      within_fit _ (shift - suc k) row (λ t. omega (arith, leb-true (shift - suc k) last (both (leb (suc k) shift) (leb (shift - suc k) last) t).1)) r

  module _ (factor shift last : ℕ) (some : 0 < factor) (h : last + l ≤ n) (k : factor * l ≤ m) where
    point_fit : (q : ℤ) → Fits l n m (spot_of shift last (point_of factor q))
    point_fit q =
        let p = point_of factor q in
        spot_fit shift last p.index p.subindex h (omega (arith, mul-le-mul_right l (point_equation factor q some).inside))

    points_fit : (q : ℤ) (offsets : List ℤ) (i : ℕ) → Fits l n m (nth (map (spot_of shift last) (map (λ o. point_of factor (q +ℤ o)) offsets)) i)
    points_fit q [] i = tt
    points_fit q (o ∷ os) zero = point_fit (q +ℤ o)
    points_fit q (o ∷ os) (suc i) = points_fit q os i

  blended_fit : (blend : SincInterpolationType) (spots : List (Option Spot)) (x : Float) → ((i : ℕ) → Fits l n m (nth spots i)) → FitAll l n m (Some (blended blend spots x))
  blended_fit Nearest spots x h = h 0
  blended_fit Linear spots x h = (h 0, h 1)
  blended_fit Quadratic spots x h = (h 0, h 1, h 2)
  blended_fit Cubic spots x h = (h 0, h 1, h 2, h 3)

  unless_fit : (blend : SincInterpolationType) (shift last : ℕ) (x : Float) (b : Bool) (ps : List Point) → FitAll l n m (Some (blended blend (map (spot_of shift last) ps) x)) → FitAll l n m (spots_said blend shift last x (unless b 11 [] (given ps)))
  unfolding unless
  unless_fit blend shift last x true ps h = h
  unless_fit blend shift last x false ps h = tt

-- every grid point fits
pub spots_fit : (blend : SincInterpolationType) (factor shift last : ℕ) (x : Float) (l n m : ℕ) → 0 < factor → last + l ≤ n → factor * l ≤ m → FitAll l n m (spots_of blend factor shift last x)
spots_fit blend factor shift last x l n m some h k =
    let y = blend_place x factor in
    subst (λ (said : Said (List Point)). FitAll l n m (spots_said blend shift last y said)) (sym (grid_is blend x factor))
    (unless_fit l n m blend shift last y (in_range (least_of blend) x factor) (points_of blend x factor)
    (blended_fit l n m blend _ y (points_fit l n m factor shift last some h k (number_of blend x factor) (offsets_of blend))))

-- ---- where the grid functions give points
module _ (blend : SincInterpolationType) (x : Float) (factor : ℕ) where
  -- in their range
  range_given : in_range (least_of blend) x factor ≡ true → grid_of blend x factor ≡ given (points_of blend x factor)
  range_given h = grid_is blend x factor ∙ sym (pass (in_range (least_of blend) x factor) 11 [] _ _ h refl)

  -- for a reader: below 2 ^ 52 and with a factor of 3 to 2 ^ 20 every blend has its points
  pub range_points : in_range 3 x factor ≡ true → grid_of blend x factor ≡ given (points_of blend x factor)
  range_points h = range_given (go blend)
    where
      go : (blend : SincInterpolationType) → in_range (least_of blend) x factor ≡ true
      go Nearest = in_range_one 3 x factor (lit< tt) h
      go Linear = in_range_one 3 x factor (lit< tt) h
      go Quadratic = h
      go Cubic = h

  module _ (shift last : ℕ) (h : all_held (spots_of blend factor shift last x) ≡ true) where
    -- where every grid point is held the index is in their range
    pub held_range : in_range (least_of blend) x factor ≡ true
    unfolding unless
    held_range =
        go (in_range (least_of blend) x factor)
        (subst (λ (said : Said (List Point)). all_held (spots_said blend shift last (blend_place x factor) said) ≡ true) (grid_is blend x factor) h)
      where
        go : (b : Bool) → all_held (spots_said blend shift last (blend_place x factor) (unless b 11 [] (given (points_of blend x factor)))) ≡ true → b ≡ true
        go true k = refl
        go false k = k

    -- so there they never answer 11
    pub held_given : grid_of blend x factor ≡ given (points_of blend x factor)
    held_given = range_given held_range

    held_blended : all_held (Some (blended blend (map (spot_of shift last) (points_of blend x factor)) (blend_place x factor))) ≡ true
    held_blended = subst (λ (said : Said (List Point)). all_held (spots_said blend shift last (blend_place x factor) said) ≡ true) held_given h

-- the point number q is held, whatever the blend
pub held_middle : (blend : SincInterpolationType) (x : Float) (factor shift last : ℕ) → all_held (spots_of blend factor shift last x) ≡ true → is_held (spot_of shift last (point_of factor (number_of blend x factor +ℤ pos 0))) ≡ true
held_middle blend x factor shift last h = go blend (held_blended blend x factor shift last h)
  where
    point : SincInterpolationType → ℤ → Bool
    point blend o = is_held (spot_of shift last (point_of factor (number_of blend x factor +ℤ o)))

    go : (blend : SincInterpolationType) → all_held (Some (blended blend (map (spot_of shift last) (points_of blend x factor)) (blend_place x factor))) ≡ true → point blend (pos 0) ≡ true
    go Nearest k = k
    go Linear k = (both (point Linear (pos 0)) (point Linear (pos 1)) k).0
    go Quadratic k = (both (point Quadratic (pos 0)) (point Quadratic (pos 1)) (both (point Quadratic (pos 0) && point Quadratic (pos 1)) (point Quadratic (pos 2)) k).0).0
    go Cubic k =
        let front = point Cubic (negsuc 0) && point Cubic (pos 0) in
        (both (point Cubic (negsuc 0)) (point Cubic (pos 0)) (both front (point Cubic (pos 1)) (both (front && point Cubic (pos 1)) (point Cubic (pos 2)) k).0).0).1
