-- A place that was found has its neighbours within reach. Assumes nothing.
use mathlib.Core.Bool.{Bool, true, false, ◌&&◌, and-eq-true_iff}
use mathlib.Core.Path.{◌≡◌, refl}
use Prim.Native.Nat.{ℕ, ◌+◌, ◌-◌, ◌*◌, ◌/◌, ◌≤◌, ◌<◌}
use native.Mathlib.Omega.{arith}
use borrow.Author.Tests.{leb-true}
use lib.Dec.{leb}
use lib.Ieee.{Float, nan, inf, fin, up, down}
use Rattle.whole.specs.Rounded.{split_of}
use Rattle.asynchro_fast.specs.declared.PolynomialDegree.{PolynomialDegree}
use Rattle.asynchro_fast.specs.Degrees.{points_of}
use Rattle.asynchro_fast.proofs.Laws.{points_small}
use Rattle.path.specs.declared.Place.{Place}
use Rattle.std.proofs.Common.{Option}
use Rattle.path.specs.Places.{place_at, within, place_from, place_of, shift_of, last_of}
use Rattle.path.specs.Turns.{Reaches}

-- the code's places stay below 2 ^ 17
pub shift_small : (degree : PolynomialDegree) → shift_of degree < 131072
shift_small degree = omega (arith, points_small degree)

pub last_small : (degree : PolynomialDegree) (needed : ℕ) → needed ≤ 65536 → last_of degree needed < 131072
last_small degree needed h = omega (arith, points_small degree)

-- ---- neighbours within n samples
within_reach : (degree : PolynomialDegree) (b : Bool) (s : ℕ) (x : Float) (n : ℕ) → (b ≡ true → s + points_of degree ≤ n) → Reaches degree (within b (place_at s x)) n
within_reach degree true s x n h = h refl
within_reach degree false s x n h = tt

from_reach : (degree : PolynomialDegree) (shift last : ℕ) (floor frac : Float) (n : ℕ) → last + points_of degree ≤ n → Reaches degree (place_from shift last floor frac) n
unfolding place_from
from_reach degree shift last nan frac n h = tt
from_reach degree shift last (inf s) frac n h = tt
from_reach degree shift last (fin false m e) frac n h =
    let k = m * up e / down e in
    within_reach degree (leb (k + shift) last) (k + shift) frac n (λ t. omega (arith, leb-true (k + shift) last t))
from_reach degree shift last (fin true m e) frac n h =
    let k = m * up e / down e in
    within_reach degree (leb k shift && leb (shift - k) last) (shift - k) frac n (λ t. omega (arith, leb-true (shift - k) last ((and-eq-true_iff (leb k shift) (leb (shift - k) last)).0 t).1))

pub place_reach : (degree : PolynomialDegree) (needed : ℕ) (p : Option Place) (x : Float) (n : ℕ) → 2 * points_of degree + needed ≤ n
    → p ≡ place_of (shift_of degree) (last_of degree needed) x → Reaches degree p n
place_reach degree needed p x n h e = rw e (from_reach degree (shift_of degree) (last_of degree needed) (split_of x).floor (split_of x).frac n (omega arith))
