-- What a kind that passes its test fixes: points, factor and the table are small. Assumes nothing.
use mathlib.Core.Bool.{true, ◌&&◌, and-eq-true_iff}
use mathlib.Core.Path.{◌≡◌, subst}
use Prim.Native.Nat.{ℕ, ◌*◌, ◌%◌, ◌≤◌}
use native.Mathlib.Nat.{mul-le-mul}
use native.Mathlib.Omega.{arith}
use borrow.Author.Tests.{leb-true}
use lib.Dec.{eqb, leb}
use Rattle.asynchro_fast.proofs.Laws as degrees
use Rattle.asynchro_sinc.specs.declared.SincInterpolationType.{SincInterpolationType}
use Rattle.kinds.specs.declared.Kind.{Kind}
use Rattle.kinds.specs.declared.Kind.TheVariants.{Polynomial, Sinc}
use Rattle.kinds.specs.Kinds.{points_of, sinc_holds, kind_holds, table_of}

-- the bounds of a sinc
pub record Sized (points factor : ℕ) : Type 0 where
  pub points_least : 8 ≤ points
  pub points_most : points ≤ 256
  pub factor_least : 3 ≤ factor
  pub factor_most : factor ≤ 1024

pub sized : (points factor : ℕ) → sinc_holds points factor ≡ true → Sized points factor
sized points factor h =
    let a = (and-eq-true_iff (leb 8 points && leb points 256 && eqb (points % 2) 0 && leb 3 factor) (leb factor 1024)).0 h in
    let b = (and-eq-true_iff (leb 8 points && leb points 256 && eqb (points % 2) 0) (leb 3 factor)).0 a.0 in
    let c = (and-eq-true_iff (leb 8 points && leb points 256) (eqb (points % 2) 0)).0 b.0 in
    let d = (and-eq-true_iff (leb 8 points) (leb points 256)).0 c.0 in
    record {
      points_least = leb-true 8 points d.0;
      points_most = leb-true points 256 d.1;
      factor_least = leb-true 3 factor b.1;
      factor_most = leb-true factor 1024 a.1;
    }

pub points_few : (k : Kind) → kind_holds k ≡ true → points_of k ≤ 256
points_few (Polynomial degree) h = omega (arith, degrees.points_small degree)
points_few (Sinc points factor blend) h = (sized points factor h).points_most

pub points_some : (k : Kind) → kind_holds k ≡ true → 1 ≤ points_of k
points_some (Polynomial degree) h = omega (arith, degrees.before_points degree)
points_some (Sinc points factor blend) h = omega (arith, (sized points factor h).points_least)

product_small : (points factor : ℕ) → Sized points factor → points * factor ≤ 262144
product_small points factor z = mul-le-mul z.points_most z.factor_most

-- a table is points*factor samples long
pub table_sinc : (k : Kind) (points factor : ℕ) (blend : SincInterpolationType) → k ≡ Sinc points factor blend → kind_holds k ≡ true → (points * factor ≤ 262144) × (points * factor ≡ table_of k)
table_sinc k points factor blend e h =
    let q : kind_holds (Sinc points factor blend) ≡ true = subst (λ (z : Kind). kind_holds z ≡ true) e h in
    (product_small points factor (sized points factor q), rw e)
