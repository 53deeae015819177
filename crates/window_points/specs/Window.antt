-- A window in a lent area: 2 to 65,536 points, else 11; then 8 for an area of another length. Definitions only.
use Rattle.std.specs.Prelude.{ℕ, ◌&&◌, List, [], length, ◌==◌, nat_le, Float}
use Rattle.error.specs.Refusals.{Said, given, unless}
use Rattle.windows.specs.declared.WindowFunction.{WindowFunction}
use Rattle.window_points.specs.Points.{point_at}
use Rattle.window_points.specs.Filled.{listed, Filled, filled_or}

abbrev pub window_said : ℕ → ℕ → Said Unit
window_said n long = unless (nat_le 2 n && nat_le n 65536) 11 [] (unless (long == n) 8 [] (given tt))

abbrev pub window_of : ℕ → WindowFunction → List Float → Filled
window_of n w area = filled_or area (listed (λ i. point_at w i n) n) (window_said n (length area))
