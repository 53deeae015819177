-- What a turn of a loop over the frames asks of a site, and what the code works out on the way to a place: nothing that a reader needs to believe, for no promise of a public function goes through it. Definitions only.
use Rattle.std.specs.Prelude.{Bool, true, ◌&&◌, List, ◌≡◌, ℕ, zero, suc, ◌+◌, ◌-◌, ◌*◌, ◌≤◌, Float, get_or, set, Option, Some, None}
use Rattle.std.specs.Float.{nan}
use Rattle.std.specs.Float.Ieee.{neg, lt, le}
use Rattle.exact.specs.Doubles.{◌+f◌, count}
use Rattle.asynchro_fast.specs.declared.PolynomialDegree.{PolynomialDegree}
use Rattle.asynchro_fast.specs.Degrees.{points_of}
use Rattle.kinds.specs.declared.Kind.{Kind}
use Rattle.kinds.specs.declared.Kind.TheVariants.{Polynomial, Sinc}
use Rattle.grid_places.specs.Turns.{FitAll}
use Rattle.path.specs.declared.Place.{Place}
use Rattle.path.specs.declared.Site.{Site}
use Rattle.path.specs.declared.Site.TheVariants.{Kernel, Grid}
use Rattle.path.specs.declared.Span.{Span}
use Rattle.path.specs.Path.{path_at}
use Rattle.path.specs.Places.{place_at, place_from, place_of, shift_of, last_of}

-- the indexes from -shift on and below last - shift + 1
abbrev pub span_of : ℕ → ℕ → Span
span_of shift last = record { least = neg (count shift); end = neg (count shift) +f count (last + 1) }

-- within this span the samples are all there: the grid points of a sinc lie from one sample before the floor to one after it
abbrev pub inner_span : Kind → ℕ → Span
inner_span (Polynomial degree) needed = span_of (shift_of degree) (last_of degree needed)
inner_span (Sinc points factor blend) needed = span_of (2 * points - 1) (points + needed - 2)

abbrev pub is_within : Span → Float → Bool
is_within span x = le span.least x && lt x span.end

-- a test that each of the first n indexes of a path passes
unfoldable pub all_along : (Float → Bool) → Float → Float → Float → ℕ → Bool
unfolding path_at
all_along test t d i zero = true
all_along test t d i (suc f) = all_along test t d i f && test (path_at t d i (suc f)).index

-- a place and its fraction at place f of a list
abbrev pub put_start : Option Place → ℕ → List ℕ → List ℕ
put_start (Some p) f places = set places f p.start
put_start None f places = places

abbrev pub put_frac : Option Place → ℕ → List Float → List Float
put_frac (Some p) f fracs = set fracs f p.frac
put_frac None f fracs = fracs

-- the first n frames from the step t and the index i on have their places and fractions in the lists
unfoldable pub PlacedTo : ℕ → ℕ → Float → Float → Float → List ℕ → List Float → ℕ → Type 0
unfolding place_from path_at
PlacedTo shift last t d i places fracs zero = Unit
PlacedTo shift last t d i places fracs (suc f) =
    PlacedTo shift last t d i places fracs f × (place_of shift last (path_at t d i (suc f)).index ≡ Some (place_at (get_or places f 0) (get_or fracs f nan)))

-- the neighbours that begin there end within n samples
abbrev pub Reaches : PolynomialDegree → Option Place → ℕ → Type 0
Reaches d (Some p) n = p.start + points_of d ≤ n
Reaches d None n = Unit

-- the samples of the site lie within n samples, and its rows within a table of m
abbrev pub Lies : Site → ℕ → ℕ → Type 0
Lies (Kernel d p) n m = Reaches d p n
Lies (Grid l spots) n m = (1 ≤ l) × FitAll l n m spots
