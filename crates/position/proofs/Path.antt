-- The index path of a block is the running sum of exact's `walk`. Assumes nothing.
use mathlib.Core.Path.{◌≡◌, refl, ap}
use Prim.Native.Nat.{ℕ, zero, suc}
use lib.Ieee.{Float, binary64}
use Rattle.exact.specs.Doubles.{◌+f◌}
use Rattle.exact.specs.Running.{run, walk}
use Rattle.path.specs.Path.{path_at}

pub path_step : (t d i : Float) (f : ℕ) → (path_at t d i f).step ≡ run binary64 f t d
unfolding path_at run
path_step t d i zero = refl
path_step t d i (suc f) = ap (λ (x : Float). x +f d) (path_step t d i f)

pub path_index : (t d i : Float) (f : ℕ) → (path_at t d i f).index ≡ walk binary64 f i t d
unfolding path_at walk run
path_index t d i zero = refl
path_index t d i (suc f) = rw (path_index t d i f, path_step t d i f)
