-- Document 02, R-4: where the samples of a frame's grid points lie, and the blend place. Definitions only.
use Rattle.std.specs.Prelude.{ℕ, suc, ◌+◌, ◌-◌, Bool, true, false, ◌&&◌, List, map, ℤ, pos, negsuc, nat_le, slice_index_or, Float, Option, Some, None}
use Rattle.exact.specs.Doubles.{◌*f◌, count}
use Rattle.error.specs.Refusals.{Said, given, refused}
use Rattle.whole.specs.Rounded.{split_of}
use Rattle.interpolation.specs.declared.Point.{Point}
use Rattle.interpolation.specs.Grid.{nearest1, nearest2, nearest3, nearest4}
use Rattle.asynchro_sinc.specs.declared.SincInterpolationType.{SincInterpolationType}
use Rattle.asynchro_sinc.specs.declared.SincInterpolationType.TheVariants.{Nearest, Linear, Quadratic, Cubic}
use Rattle.grid_places.specs.declared.Spot.{Spot}
use Rattle.grid_places.specs.declared.Spots.{Spots}
use Rattle.grid_places.specs.declared.Spots.TheVariants.{One, Two, Three, Four}

-- the spot at a start with a row
abbrev pub spot : ℕ → ℕ → Spot
spot start row = record { start = start; row = row }

-- that spot where the test passes
abbrev pub within : Bool → ℕ → ℕ → Option Spot
within true start row = Some (spot start row)
within false start row = None

-- "the L samples from its index + 2L times table row subindex": the place index + shift with the row, None where it lies below 0 or above last
unfoldable pub spot_from : ℕ → ℕ → ℤ → ℕ → Option Spot
spot_from shift last (pos n) row = within (nat_le (n + shift) last) (n + shift) row
spot_from shift last (negsuc n) row = within (nat_le (suc n) shift && nat_le (shift - suc n) last) (shift - suc n) row

abbrev pub spot_of : ℕ → ℕ → Point → Option Spot
spot_of shift last p = spot_from shift last p.index p.subindex

-- "the grid points .. are the ported functions": Nearest one, Linear two, Quadratic three, Cubic four
abbrev pub grid_of : SincInterpolationType → Float → ℕ → Said (List Point)
grid_of Nearest = nearest1
grid_of Linear = nearest2
grid_of Quadratic = nearest3
grid_of Cubic = nearest4

-- "the blend place is index*factor minus its floor"
abbrev pub blend_place : Float → ℕ → Float
blend_place x factor = (split_of (x *f count factor)).frac

abbrev pub nth : List (Option Spot) → ℕ → Option Spot
nth spots k = slice_index_or spots k None

abbrev pub blended : SincInterpolationType → List (Option Spot) → Float → Spots
blended Nearest spots x = One (nth spots 0)
blended Linear spots x = Two (nth spots 0) (nth spots 1) x
blended Quadratic spots x = Three (nth spots 0) (nth spots 1) (nth spots 2) x
blended Cubic spots x = Four (nth spots 0) (nth spots 1) (nth spots 2) (nth spots 3) x

-- the spots of the grid points; None where the index has none, which the grid functions answer 11
abbrev pub spots_said : SincInterpolationType → ℕ → ℕ → Float → Said (List Point) → Option Spots
spots_said blend shift last x (given ps) = Some (blended blend (map (spot_of shift last) ps) x)
spots_said blend shift last x (refused n vs) = None

abbrev pub spots_of : SincInterpolationType → ℕ → ℕ → ℕ → Float → Option Spots
spots_of blend factor shift last x = spots_said blend shift last (blend_place x factor) (grid_of blend x factor)

-- every grid point's samples are there
abbrev pub is_held : Option Spot → Bool
is_held (Some a) = true
is_held None = false

abbrev pub all_held : Option Spots → Bool
all_held (Some (One a)) = is_held a
all_held (Some (Two a b x)) = is_held a && is_held b
all_held (Some (Three a b c x)) = is_held a && is_held b && is_held c
all_held (Some (Four a b c d x)) = is_held a && is_held b && is_held c && is_held d
all_held None = false
