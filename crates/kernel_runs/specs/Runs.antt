-- What a run of one kernel writes: nothing that a reader needs to believe, for no promise of a public function goes through it. Definitions only.
use Rattle.std.specs.Prelude.{List, [], ◌∷◌, ◌++◌, ℕ, zero, suc, ◌+◌, ◌≤◌, Float, length, get_or, take, drop}
use Rattle.std.specs.Float.{nan}
use Rattle.asynchro_fast.specs.declared.PolynomialDegree.{PolynomialDegree}
use Rattle.asynchro_fast.specs.Degrees.{points_of}
use Rattle.asynchro_fast.specs.Kernels.{interp_of}

-- the kernel on the L samples from s on, at x
unfoldable pub kernel_on : PolynomialDegree → List Float → ℕ → Float → Float
unfolding interp_of
kernel_on degree work s x = interp_of degree x (take (points_of degree) (drop s work))

-- the kernel at the first n places, each with its fraction
unfoldable pub run_to : PolynomialDegree → List Float → List ℕ → List Float → ℕ → List Float
unfolding kernel_on
run_to degree work places fracs zero = []
run_to degree work places fracs (suc k) = run_to degree work places fracs k ++ (kernel_on degree work (get_or places k 0) (get_or fracs k nan) ∷ [])

-- the samples at the first n places lie within m
unfoldable pub FitTo : PolynomialDegree → ℕ → List ℕ → ℕ → Type 0
FitTo degree m places zero = Unit
FitTo degree m places (suc k) = FitTo degree m places k × (get_or places k 0 + points_of degree ≤ m)

-- what a run asks: a place and a fraction for each frame of the output, and samples there
pub record Runs (degree : PolynomialDegree) (work : List Float) (places : List ℕ) (fracs out : List Float) : Type 0 where
  pub placed : length out ≤ length places
  pub parted : length out ≤ length fracs
  pub fit : FitTo degree (length work) places (length out)
