-- Samples in definitions: one of them, and the line through two. Definitions only.
use Rattle.std.specs.Prelude.{List, ℕ, Float, get_or}
use Rattle.std.specs.Float.{nan}
use Rattle.exact.specs.Doubles.{◌+f◌, ◌-f◌, ◌*f◌}

-- the sample number k
abbrev pub sample : List Float → ℕ → Float
sample ys k = get_or ys k nan

-- document 01, "Kernels": y0 + x*(y1-y0)
abbrev pub line_on : Float → Float → Float → Float
line_on x y0 y1 = y0 +f x *f (y1 -f y0)

abbrev pub linear : Float → List Float → Float
linear x ys = line_on x (sample ys 0) (sample ys 1)
