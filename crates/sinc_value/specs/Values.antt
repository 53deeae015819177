-- Document 02, R-4: "a grid point's value sums, in rising order, the L samples from its index + 2L times table row subindex", and the blend of a frame's grid points. Definitions only.
use Rattle.std.specs.Prelude.{List, [], ◌∷◌, ℕ, zero, suc, ◌-◌, ◌*◌, Float, take, drop, Option, Some, None}
use Rattle.exact.specs.Doubles.{◌+f◌, ◌*f◌, zero_f}
use Rattle.exact.specs.Samples.{sample, linear}
use Rattle.asynchro_sinc.specs.Blends.{sinc_cubic, sinc_quad}
use Rattle.grid_places.specs.declared.Spot.{Spot}
use Rattle.grid_places.specs.declared.Spots.{Spots}
use Rattle.grid_places.specs.declared.Spots.TheVariants.{One, Two, Three, Four}

-- the products of samples and a row's entries, summed in rising order up to place k, begun with the first product
unfoldable pub sum_to : List Float → List Float → ℕ → Float
sum_to samples row zero = sample samples 0 *f sample row 0
sum_to samples row (suc k) = sum_to samples row k +f sample samples (suc k) *f sample row (suc k)

-- a grid point's value, of l samples and its row of the table; where its samples are not all there 0.0, where no accepted block comes
abbrev pub point_value : ℕ → List Float → List Float → Option Spot → Float
point_value l table work (Some a) = sum_to (take l (drop a.start work)) (take l (drop (a.row * l) table)) (l - 1)
point_value l table work None = zero_f

-- the blends are the ported `interp_` functions of src/asynchro_sinc.rs
abbrev pub spots_value : ℕ → List Float → List Float → Option Spots → Float
spots_value l table work (Some (One a)) = point_value l table work a
spots_value l table work (Some (Two a b x)) = linear x (point_value l table work a ∷ point_value l table work b ∷ [])
spots_value l table work (Some (Three a b c x)) = sinc_quad x (point_value l table work a ∷ point_value l table work b ∷ point_value l table work c ∷ [])
spots_value l table work (Some (Four a b c d x)) =
    sinc_cubic x (point_value l table work a ∷ point_value l table work b ∷ point_value l table work c ∷ point_value l table work d ∷ [])
spots_value l table work None = zero_f
