-- The limit, as the code works it out. Assumes nothing.
use Rattle.std.proofs.Common.{◌≡◌, ℕ, ◌-◌, ◌<◌, ◌≤◌, min, le-leb}
use borrow.Author.Tests.{lt-leb}
use lib.Ieee.{Float, neg}
use Rattle.exact.specs.Doubles.{◌-f◌, count}
use Rattle.cut.specs.Cut.{margin_f, limit_of}

module _ (used edge n : ℕ) (x : Float) where
  pub limit_behind : edge ≤ used → n ≡ min (used - edge) 262144 → x ≡ count n → neg margin_f -f x ≡ limit_of used edge
  limit_behind h k e = rw (le-leb edge used h, e, k)

  pub limit_ahead : used < edge → n ≡ min (edge - used) 262144 → x ≡ count n → x -f margin_f ≡ limit_of used edge
  limit_ahead h k e = rw (lt-leb edge used h, e, k)
