-- Document 01, "Block run", 4, and document 02, R-4: the frames of one channel, and of all. `table` is the lent table. Definitions only.
use Rattle.std.specs.Prelude.{List, [], ◌∷◌, ◌++◌, ℕ, zero, suc, Float, take, drop, Option, Some, None}
use Rattle.std.proofs.Math.Seq.{paste}
use Rattle.exact.specs.Doubles.{zero_f}
use Rattle.asynchro_fast.specs.declared.PolynomialDegree.{PolynomialDegree}
use Rattle.asynchro_fast.specs.Degrees.{points_of}
use Rattle.asynchro_fast.specs.Kernels.{interp_of}
use Rattle.kinds.specs.declared.Kind.{Kind}
use Rattle.area.specs.Parts.{part_of, each_part}
use Rattle.channel.specs.Mask.{is_on, where_on}
use Rattle.path.specs.declared.Place.{Place}
use Rattle.path.specs.Path.{path_at}
use Rattle.path.specs.declared.Site.{Site}
use Rattle.path.specs.declared.Site.TheVariants.{Kernel, Grid}
use Rattle.grid_places.specs.Spots.{spot_from}
use Rattle.path.specs.Places.{place_from}
use Rattle.path.specs.Sites.{site_of}
use Rattle.sinc_value.specs.Values.{sum_to, spots_value}

-- the kernel on its L neighbours; out of reach 0.0, where no accepted block comes
unfoldable pub kernel_at : PolynomialDegree → List Float → Option Place → Float
unfolding interp_of
kernel_at degree work (Some p) = interp_of degree p.frac (take (points_of degree) (drop p.start work))
kernel_at degree work None = zero_f

-- a frame's value on the working area `work` of one channel
unfoldable pub value_at : List Float → List Float → Site → Float
unfolding kernel_at sum_to
value_at table work (Kernel degree p) = kernel_at degree work p
value_at table work (Grid points spots) = spots_value points table work spots

-- the first n frames of one channel, whose working area is `work`
unfoldable pub frames_to : Kind → List Float → ℕ → List Float → Float → Float → Float → ℕ → List Float
unfolding value_at place_from spot_from path_at
frames_to kind table needed work t d i zero = []
frames_to kind table needed work t d i (suc f) =
    frames_to kind table needed work t d i f ++ (value_at table work (site_of kind needed (path_at t d i (suc f)).index) ∷ [])

-- channel c's share of the output: its n frames from place `at` on; a switched-off channel's share stays
abbrev pub ran_in : Kind → List Float → ℕ → ℕ → List Float → ℕ → Float → Float → Float → ℕ → ℕ → ℕ → List Float → List Float
ran_in kind table needed mask work stride t d i n at c o = where_on (is_on mask c) (paste o at (frames_to kind table needed (part_of stride c work) t d i n) n) o

abbrev pub ran_all : Kind → List Float → ℕ → ℕ → List Float → ℕ → Float → Float → Float → ℕ → ℕ → ℕ → ℕ → List Float → List Float
ran_all kind table needed mask work stride t d i n at share channels = each_part (ran_in kind table needed mask work stride t d i n at) share channels
