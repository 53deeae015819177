-- What a blend of l samples answers: 11 for fewer and for more. Assumes nothing.
use Rattle.std.proofs.Common.{◌≡◌, ℕ, ◌<◌, ◌≤◌, List, [], length, ap, eq-eqb, ne_eqb, arith}
use lib.Ieee.{Float}
use Rattle.error.specs.Refusals.{given, refused}
use Rattle.error.proofs.Ladder.{pass, stop}
use Rattle.asynchro_sinc.specs.Blends.{blend_said}

module _ (l : ℕ) (blend : Float → List Float → Float) (x : Float) (ys : List Float) where
  pub said_fewer : length ys < l → refused 11 [] ≡ blend_said l blend x ys
  said_fewer h = stop _ _ _ _ (ne_eqb (length ys) l (λ e. omega arith))

  pub said_more : l < length ys → refused 11 [] ≡ blend_said l blend x ys
  said_more h = stop _ _ _ _ (ne_eqb (length ys) l (λ e. omega arith))

  pub said_just : (y : Float) → l ≤ length ys → length ys ≤ l → y ≡ blend x ys → given y ≡ blend_said l blend x ys
  said_just y a b e = pass _ _ _ _ _ (eq-eqb (length ys) l (omega arith)) (ap given e)
