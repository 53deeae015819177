-- A NaN and the test `x != x` that tells it. Assumes nothing.
use mathlib.Core.Bool.{false, not, true≢false}
use mathlib.Core.Path.{◌≡◌, sym, ◌∙◌}
use lib.Dec.{T}
use lib.Ieee.{Float, nan, inf, fin, is_nan, ne}
use lib.Ieee.Compare.{nan_differs}

pub no_nan : (x : Float) → ne x x ≡ false → T (not (is_nan x))
unfolding is_nan
no_nan nan h = absurd (true≢false (sym nan_differs ∙ h))
no_nan (inf s) h = tt
no_nan (fin s m e) h = tt
