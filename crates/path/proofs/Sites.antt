-- The site of an index, for each kind; and a site that was found has its samples within the working area, and its rows within the table. Assumes nothing.
use mathlib.Core.Bool.{true}
use mathlib.Core.Path.{◌≡◌, refl, subst}
use Prim.Native.Nat.{ℕ, ◌+◌, ◌-◌, ◌*◌, ◌≤◌, ◌<◌}
use native.Mathlib.Omega.{arith}
use lib.Ieee.{Float}
use Rattle.asynchro_fast.specs.declared.PolynomialDegree.{PolynomialDegree}
use Rattle.asynchro_sinc.specs.declared.SincInterpolationType.{SincInterpolationType}
use Rattle.kinds.specs.declared.Kind.{Kind}
use Rattle.kinds.specs.declared.Kind.TheVariants.{Polynomial, Sinc}
use Rattle.kinds.specs.Kinds.{points_of, kind_holds, table_of}
use Rattle.kinds.proofs.Laws.{sized}
use Rattle.grid_places.specs.declared.Spots.{Spots}
use Rattle.grid_places.specs.Spots.{spots_of}
use Rattle.grid_places.proofs.Grid.{spots_fit}
use Rattle.path.specs.declared.Place.{Place}
use Rattle.std.proofs.Common.{Option}
use Rattle.path.specs.declared.Site.{Site}
use Rattle.path.specs.declared.Span.{Span}
use Rattle.path.specs.declared.Site.TheVariants.{Kernel, Grid}
use Rattle.path.specs.Places.{place_of, shift_of, last_of}
use Rattle.path.specs.Sites.{site_of}
use Rattle.path.specs.Turns.{span_of, inner_span, Lies}
use Rattle.path.proofs.Places.{place_reach}

-- ---- the site, by its kind
pub site_kernel : (k : Kind) (degree : PolynomialDegree) (needed : ℕ) (x : Float) (shift last : ℕ) (p : Option Place) → k ≡ Polynomial degree → shift ≡ shift_of degree → last ≡ last_of degree needed
    → p ≡ place_of shift last x → Kernel degree p ≡ site_of k needed x
site_kernel k degree needed x shift last p e a b h = rw (e, h, a, b)

pub site_grid : (k : Kind) (points factor : ℕ) (blend : SincInterpolationType) (needed : ℕ) (x : Float) (spots : Option Spots) → k ≡ Sinc points factor blend
    → spots ≡ spots_of blend factor (2 * points) (points + needed) x → Grid points spots ≡ site_of k needed x
site_grid k points factor blend needed x spots e h = rw (e, h)

-- what the grid's places ask: they stay below 2 ^ 17
pub grid_small : (k : Kind) (points factor : ℕ) (blend : SincInterpolationType) (needed : ℕ) → k ≡ Sinc points factor blend → kind_holds k ≡ true → needed ≤ 65536
    → (2 * points < 131072) × (points + needed < 131072)
grid_small k points factor blend needed e h l =
    let q = (sized points factor (subst (λ (z : Kind). kind_holds z ≡ true) e h)).points_most in
    (omega arith, omega arith)

-- ---- the inner span, by its kind
pub inner_kernel : (k : Kind) (degree : PolynomialDegree) (needed shift last : ℕ) (r : Span) → k ≡ Polynomial degree → shift ≡ shift_of degree → last ≡ last_of degree needed → r ≡ span_of shift last → r ≡ inner_span k needed
inner_kernel k degree needed shift last r e a b h = rw (e, ← a, ← b) h

pub inner_grid : (k : Kind) (points factor : ℕ) (blend : SincInterpolationType) (needed : ℕ) (r : Span) → k ≡ Sinc points factor blend → r ≡ span_of (2 * points - 1) (points + needed - 2) → r ≡ inner_span k needed
inner_grid k points factor blend needed r e h = rw e h

pub grid_sized : (k : Kind) (points factor : ℕ) (blend : SincInterpolationType) → k ≡ Sinc points factor blend → kind_holds k ≡ true → (8 ≤ points) × (points ≤ 256)
grid_sized k points factor blend e h =
    let z = sized points factor (subst (λ (z : Kind). kind_holds z ≡ true) e h) in
    (z.points_least, z.points_most)

-- ---- a site lies within n samples and a table of m
lies : (k : Kind) → kind_holds k ≡ true → (needed : ℕ) (x : Float) (n m : ℕ) → 2 * points_of k + needed ≤ n → m ≡ table_of k → Lies (site_of k needed x) n m
lies (Polynomial degree) h needed x n m l e = place_reach degree needed (place_of (shift_of degree) (last_of degree needed) x) x n l refl
lies (Sinc points factor blend) h needed x n m l e =
    let z = sized points factor h in
    (omega (arith, z.points_least), spots_fit blend factor (2 * points) (points + needed) x points n m (omega (arith, z.factor_least)) (omega arith) (omega (arith, e)))

pub site_lies : (k : Kind) → kind_holds k ≡ true → (needed : ℕ) (x : Float) (n m : ℕ) (site : Site) → 2 * points_of k + needed ≤ n → m ≡ table_of k → site ≡ site_of k needed x → Lies site n m
site_lies k h needed x n m site l e q = rw q (lies k h needed x n m l e)

pub lies_same : (site : Site) (n n' m : ℕ) → n ≡ n' → Lies site n' m → Lies site n m
lies_same site n n' m e h = rw e h
