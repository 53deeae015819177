-- A sinc frame's grid points: all of them are held just where none has samples outside, and then the frame is the blend of their sums. Assumes nothing.
use mathlib.Core.Bool.{Bool, true, false, ◌&&◌, false≢true}
use mathlib.Core.List.{List, [], ◌∷◌, map}
use mathlib.Core.Logic.{◌⊎◌, inl, inr}
use mathlib.Core.Path.{◌≡◌, refl, sym, ap, ◌∙◌, subst}
use Prim.Native.Nat.{ℕ, zero, suc, ◌+◌, ◌-◌, ◌*◌, ◌≤◌, ◌<◌}
use native.Mathlib.Nat.{not-suc-le-zero, le_of_suc-le-suc}
use native.Mathlib.Omega.{arith}
use borrow.Author.Tests.{leb-true, leb-false}
use lib.Dec.{leb}
use lib.IntN.{ℤ, pos, negsuc, ◌+ℤ◌}
use lib.Ieee.{Float, nan}
use lib.ListN.{length, get_or, length-map}
use Rattle.exact.specs.Whole.{Same, Less, AtMost}
use Rattle.error.specs.Refusals.{Said, given}
use Rattle.error.proofs.Ladder.{both, same_given}
use Rattle.interpolation.specs.declared.Point.{Point}
use Rattle.interpolation.specs.Grid.{in_range, point_of}
use Rattle.interpolation.proofs.Points.{point_equation}
use Rattle.asynchro_sinc.specs.declared.SincInterpolationType.{SincInterpolationType}
use Rattle.asynchro_sinc.specs.declared.SincInterpolationType.TheVariants.{Nearest, Linear, Quadratic, Cubic}
use Rattle.grid_places.specs.declared.Spot.{Spot}
use Rattle.std.specs.Prelude.{Option, Some, None}
use Rattle.grid_places.specs.declared.Spots.{Spots}
use Rattle.grid_places.specs.Spots.{spot, within, spot_from, spot_of, grid_of, blend_place, nth, blended, spots_said, spots_of, is_held, all_held}
use Rattle.grid_places.proofs.Grid.{points_of, number_of, offsets_of, range_points, held_given}
use Rattle.sinc_value.specs.Values.{point_value, spots_value}
use Rattle.theorems.specs.Block.{first_of, final_of, point_at, blend_of, PointInside, GridOutside, GridFrame}
use Rattle.theorems.proofs.Each.{first_hold, each_holds, some_fails}

-- ---- one grid point
-- a spot that is held is the first sample's place with the row
pub record Started (points needed : ℕ) (p : Point) (o : Option Spot) : Type 0 where
  pub start : ℕ
  pub is : o ≡ Some (spot start p.subindex)
  pub begins : Same (start, 0) (first_of points p)
  pub ends : start + points ≤ 2 * points + needed

held_within : (b : Bool) (start row : ℕ) → is_held (within b start row) ≡ true → (b ≡ true) × (within b start row ≡ Some (spot start row))
held_within true start row h = (refl, refl)
held_within false start row h = absurd (false≢true h)

module _ (points needed : ℕ) where
  abbrev spot_at : Point → Option Spot
  spot_at = spot_of (2 * points) (points + needed)

  -- the samples of a grid point lie below 0 or at or past 2L + needed input
  abbrev Out : Point → Type 0
  Out p = Less (first_of points p) (0, 0) ⊎ AtMost (2 * points + needed, 0) (final_of points p)

  started : (p : Point) → is_held (spot_at p) ≡ true → Started points needed p (spot_at p)
  unfolding spot_from
  started p h = go p.index refl h
    where
      go : (z : ℤ) → p.index ≡ z → is_held (spot_from (2 * points) (points + needed) z p.subindex) ≡ true → Started points needed p (spot_at p)
      go (pos n) e h =
          let w = held_within (leb (n + 2 * points) (points + needed)) (n + 2 * points) p.subindex h in
          let l = leb-true (n + 2 * points) (points + needed) w.0 in
          record { start = n + 2 * points; is = rw e w.1; begins = rw e (omega arith); ends = omega arith }
      go (negsuc n) e h =
          let w = held_within _ (2 * points - suc n) p.subindex h in
          let b = both (leb (suc n) (2 * points)) (leb (2 * points - suc n) (points + needed)) w.0 in
          let k : suc n ≤ 2 * points = leb-true (suc n) (2 * points) b.0 in
          let l = leb-true (2 * points - suc n) (points + needed) b.1 in
          record { start = 2 * points - suc n; is = rw e w.1; begins = rw e (omega arith); ends = omega arith }

  out_apart : (p : Point) → Out p → is_held (spot_at p) ≡ true → ⊥
  out_apart p (inl o) h = let k = started p h in omega (arith, o, k.begins, k.ends)
  out_apart p (inr o) h = let k = started p h in omega (arith, o, k.begins, k.ends)

  out_else : (p : Point) → is_held (spot_at p) ≡ false → Out p
  unfolding spot_from
  out_else p h = go p.index refl h
    where
      lost : (b : Bool) (start row : ℕ) → is_held (within b start row) ≡ false → b ≡ false
      lost true start row h = h
      lost false start row h = refl

      go : (z : ℤ) → p.index ≡ z → is_held (spot_from (2 * points) (points + needed) z p.subindex) ≡ false → Out p
      go (pos n) e h = inr (rw e (omega (arith, leb-false (n + 2 * points) (points + needed) (lost (leb (n + 2 * points) (points + needed)) (n + 2 * points) p.subindex h))))
      go (negsuc n) e h = below (leb (suc n) (2 * points)) refl (lost _ (2 * points - suc n) p.subindex h)
        where
          below : (a : Bool) → leb (suc n) (2 * points) ≡ a → (a && leb (2 * points - suc n) (points + needed)) ≡ false → Out p
          below false d k = inl (rw e (omega (arith, leb-false (suc n) (2 * points) d)))
          below true d k = inr (rw e (omega (arith, leb-true (suc n) (2 * points) d, leb-false (2 * points - suc n) (points + needed) k)))

-- ---- the grid points of a blend
abbrev many : SincInterpolationType → ℕ
many Nearest = 1
many Linear = 2
many Quadratic = 3
many Cubic = 4

points_many : (blend : SincInterpolationType) (x : Float) (factor : ℕ) → length (points_of blend x factor) ≡ many blend
points_many Nearest x factor = refl
points_many Linear x factor = refl
points_many Quadratic x factor = refl
points_many Cubic x factor = refl

blended_held : (blend : SincInterpolationType) (spots : List (Option Spot)) (y : Float) → all_held (Some (blended blend spots y)) ≡ first_hold (λ k. is_held (nth spots k)) (many blend)
blended_held Nearest spots y = refl
blended_held Linear spots y = refl
blended_held Quadratic spots y = refl
blended_held Cubic spots y = refl

-- the k-th image of some
map_at : {A B : Type 0} (f : A → B) (xs : List A) (k : ℕ) (d : A) (e : B) → k < length xs → get_or (map f xs) k e ≡ f (get_or xs k d)
map_at f [] k d e l = absurd (not-suc-le-zero l)
map_at f (x ∷ xs) zero d e l = refl
map_at f (x ∷ xs) (suc k) d e l = map_at f xs k d e (le_of_suc-le-suc l)

module _ (points factor : ℕ) (blend : SincInterpolationType) (needed : ℕ) (x : Float) where
  abbrev grid : List Point
  grid = points_of blend x factor

  abbrev spots : List (Option Spot)
  spots = map (spot_at points needed) grid

  abbrev lying : Option Spots
  lying = spots_of blend factor (2 * points) (points + needed) x

  spot_is : (k : ℕ) → k < length grid → nth spots k ≡ spot_at points needed (point_at grid k)
  spot_is k l = map_at (spot_at points needed) grid k _ None l

  -- where the grid functions give points, the spots are all held just where each is
  given_held : grid_of blend x factor ≡ given grid → all_held lying ≡ first_hold (λ k. is_held (nth spots k)) (length grid)
  given_held g =
      ap (λ (said : Said (List Point)). all_held (spots_said blend (2 * points) (points + needed) (blend_place x factor) said)) g
      ∙ blended_held blend spots (blend_place x factor) ∙ ap (first_hold (λ k. is_held (nth spots k))) (sym (points_many blend x factor))

  module _ (h : all_held lying ≡ true) where
    points_given : grid_of blend x factor ≡ given grid
    points_given = held_given blend x factor (2 * points) (points + needed) h

    point_held : (k : ℕ) → k < length grid → is_held (spot_at points needed (point_at grid k)) ≡ true
    point_held k l = subst (λ (a : Option Spot). is_held a ≡ true) (spot_is k l) (each_holds (λ k. is_held (nth spots k)) (length grid) (sym (given_held points_given) ∙ h) k l)

    point_started : (k : ℕ) → k < length grid → Started points needed (point_at grid k) (spot_at points needed (point_at grid k))
    point_started k l = started points needed (point_at grid k) (point_held k l)

  -- ---- Reach
  pub grid_outside : in_range 3 x factor ≡ true → all_held lying ≡ false → GridOutside points factor blend needed x
  grid_outside r h =
      let g = range_points blend x factor r in
      let f = some_fails (λ k. is_held (nth spots k)) (length grid) (sym (given_held g) ∙ h) in
      record {
        grid = grid;
        are = g;
        k = f.0;
        among = f.1;
        out = out_else points needed (point_at grid f.0) (subst (λ (a : Option Spot). is_held a ≡ false) (spot_is f.0 f.1) f.2);
      }

  pub outside_grid : GridOutside points factor blend needed x → all_held lying ≡ false
  outside_grid o = go (all_held lying) refl
    where
      go : (b : Bool) → all_held lying ≡ b → b ≡ false
      go false e = refl
      go true e =
          let same : o.grid ≡ grid = same_given o.grid grid (sym o.are ∙ points_given e) in
          absurd (out_apart points needed (point_at grid o.k) (subst (λ (ps : List Point). Out points needed (point_at ps o.k)) same o.out)
          (point_held e o.k (subst (λ (ps : List Point). o.k < length ps) same o.among)))

  -- ---- the frame
  abbrev place_in : Option Spot → ℕ
  place_in (Some a) = a.start
  place_in None = 0

  place_is : (p : Point) (o : Option Spot) → Started points needed p o → o ≡ Some (spot (place_in o) p.subindex)
  place_is p o k = k.is ∙ ap (λ (n : ℕ). Some (spot n p.subindex)) (sym (ap place_in k.is))

  point_inside : (p : Point) (o : Option Spot) → Started points needed p o → p.subindex < factor → PointInside points factor needed p (place_in o)
  point_inside p spot k l =
      let e : place_in spot ≡ k.start = ap place_in k.is in
      record { begins = omega (arith, e, k.begins); ends = omega (arith, e, k.ends); row = l }

  row_inside : 0 < factor → (q : ℤ) (offsets : List ℤ) (k : ℕ) → (point_at (map (λ o. point_of factor (q +ℤ o)) offsets) k).subindex < factor
  row_inside some q [] k = some
  row_inside some q (o ∷ os) zero = (point_equation factor (q +ℤ o) some).inside
  row_inside some q (o ∷ os) (suc k) = row_inside some q os k

  module _ (table work : List Float) where
    abbrev values : SincInterpolationType → List Float
    values blend = map (point_value points table work) (map (spot_at points needed) (points_of blend x factor))

    blend_is : (blend : SincInterpolationType) (y : Float) → spots_value points table work (Some (blended blend (map (spot_at points needed) (points_of blend x factor)) y)) ≡ blend_of blend y (values blend)
    blend_is Nearest y = refl
    blend_is Linear y = refl
    blend_is Quadratic y = refl
    blend_is Cubic y = refl

    pub grid_framed : 0 < factor → all_held lying ≡ true → (y : Float) → y ≡ spots_value points table work lying → GridFrame points factor blend needed table work x y
    grid_framed some h y e =
        record {
          grid = grid;
          are = points_given h;
          places = λ k. place_in (spot_at points needed (point_at grid k));
          inside = λ k l. point_inside (point_at grid k) (spot_at points needed (point_at grid k)) (point_started h k l) (row_inside some (number_of blend x factor) (offsets_of blend) k);
          values = values blend;
          long = length-map spots (point_value points table work) ∙ length-map grid (spot_at points needed);
          each = λ k l.
              map_at (point_value points table work) spots k None nan (rw (length-map grid (spot_at points needed)) l)
              ∙ ap (point_value points table work) (spot_is k l ∙ place_is (point_at grid k) _ (point_started h k l));
          value =
              e ∙ ap (λ (said : Said (List Point)). spots_value points table work (spots_said blend (2 * points) (points + needed) (blend_place x factor) said)) (points_given h)
              ∙ blend_is blend (blend_place x factor);
        }
