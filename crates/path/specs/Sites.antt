-- Where a frame's samples lie, for either kind, and Reach. Definitions only.
use Rattle.std.specs.Prelude.{Bool, true, ◌&&◌, ℕ, zero, suc, ◌+◌, ◌*◌, Float}
use Rattle.kinds.specs.declared.Kind.{Kind}
use Rattle.kinds.specs.declared.Kind.TheVariants.{Polynomial, Sinc}
use Rattle.grid_places.specs.Spots.{spot_from, spots_of, all_held}
use Rattle.path.specs.declared.Site.{Site}
use Rattle.path.specs.declared.Site.TheVariants.{Kernel, Grid}
use Rattle.path.specs.Path.{path_at}
use Rattle.path.specs.Places.{place_from, place_of, is_at, shift_of, last_of}

-- Document 01, "Block run", 4: a kernel's neighbours. Document 02, R-4: of each grid point "the L samples from its index + 2L", which lie below 2L + needed input where the first is at most L + needed input
abbrev pub site_of : Kind → ℕ → Float → Site
site_of (Polynomial degree) needed x = Kernel degree (place_of (shift_of degree) (last_of degree needed) x)
site_of (Sinc points factor blend) needed x = Grid points (spots_of blend factor (2 * points) (points + needed) x)

abbrev pub reached : Site → Bool
reached (Kernel degree p) = is_at p
reached (Grid points spots) = all_held spots

-- each of the first n frames has its samples in reach; "Reach is given exactly when some frame's neighbours, masks disregarded, lie below 0 or at or past 2L+needed input"; R-4: "Reach covers every grid point's samples"
unfoldable pub all_reach : Kind → ℕ → Float → Float → Float → ℕ → Bool
unfolding place_from spot_from path_at
all_reach kind needed t d i zero = true
all_reach kind needed t d i (suc f) = all_reach kind needed t d i f && reached (site_of kind needed (path_at t d i (suc f)).index)
