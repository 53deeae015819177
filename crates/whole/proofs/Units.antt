-- A double and the whole numbers next to it, in units of 2 ^ -1074: a / d is M of U units to the one. Assumes nothing.
use mathlib.Core.Bool.{Bool, false}
use mathlib.Core.Path.{◌≡◌, ap}
use Prim.Native.Nat.{ℕ, ◌+◌, ◌*◌, ◌/◌, ◌%◌, ◌^◌, ◌≤◌, ◌<◌}
use native.Mathlib.Nat.{mod-lt, div-add-mod', eq_of_mul-eq-mul_right, lt_of_mul-lt-mul_right, le_of_mul-le-mul_right, mul-lt-mul_of_pos_right, mul-le-mul_right}
use native.Mathlib.Omega.{arith}
use lib.Dec.{T}
use lib.IntN.{ℤ}
use lib.Ieee.{fin, Format, binary64, low, up, down, round, fits}
use lib.Ieee.Exact.{HasValue}
use lib.Ieee.Fits.{down_pos}
use lib.Pow.{pow_pos}
use Rattle.exact.specs.Whole.{signed}
use Rattle.exact.specs.Exact.{mag, exact, Number}
use Rattle.exact.proofs.Exact.{mag_exact, finite_of}
use Rattle.exact.proofs.Products.{ones_exact}
use Rattle.whole.specs.Rounded.{whole_f}
use Rattle.whole.proofs.Held.{whole_f_value, whole_f_fits}

-- ---- M units of which U make one are a / d, and that is n ones with r / d left over
pub record Shared (M U a d n r : ℕ) : Type 0 where
  pub some : 0 < d
  pub one : 0 < U
  pub is : M * d ≡ a * U
  pub parts : n * d + r ≡ a
  pub left : r < d

pub shared : (f : Format) (s : Bool) (m : ℕ) (e : ℤ) → T (fits f (fin s m e)) → Shared (mag f (fin s m e)) (2 ^ low f) (m * up e) (down e) (m * up e / down e) (m * up e % down e)
shared f s m e t =
    record {
      some = down_pos e;
      one = pow_pos (low f);
      is = mag_exact f (fin s m e) t;
      parts = div-add-mod' (m * up e) (down e);
      left = mod-lt (m * up e) (down_pos e);
    }

module _ {M U a d n r : ℕ} (o : Shared M U a d n r) where
  scaled : n * d * U + r * U ≡ M * d
  scaled = omega (arith, ap (λ (x : ℕ). x * U) o.parts)

  pub ones_le : n * U ≤ M
  ones_le = le_of_mul-le-mul_right (omega (arith, scaled)) o.some

  pub ones_lt : 0 < r → n * U < M
  ones_lt h = lt_of_mul-lt-mul_right d (omega (arith, scaled, mul-lt-mul_of_pos_right h o.one))

  pub ones_next : M < n * U + U
  ones_next = lt_of_mul-lt-mul_right d (omega (arith, scaled, mul-lt-mul_of_pos_right o.left o.one))

  pub ones_under : (b : ℕ) → M < b * U → a < b * d
  ones_under b h = lt_of_mul-lt-mul_right U (omega (arith, mul-lt-mul_of_pos_right h o.some))

  pub ones_rest : (g : ℕ) → g * d ≡ r * U → M ≡ n * U + g
  ones_rest g h = eq_of_mul-eq-mul_right d o.some M (n * U + g) (omega (arith, scaled))

  pub half_over : d ≤ 2 * r → U + 2 * (n * U) ≤ 2 * M
  half_over h = le_of_mul-le-mul_right (omega (arith, scaled, mul-le-mul_right U h)) o.some

  pub half_under : 2 * r < d → 2 * M < U + 2 * (n * U)
  half_under h = lt_of_mul-lt-mul_right d (omega (arith, scaled, mul-lt-mul_of_pos_right h o.one))

-- ---- the exact value of a whole number
pub whole_exact : (s : Bool) (n : ℕ) → HasValue (round binary64 false n 1) false n 1 → exact binary64 (whole_f s n) ≡ signed s (n * 2 ^ low binary64)
whole_exact s n h = ones_exact binary64 (whole_f s n) s n (whole_f_value s n h)

pub whole_number : (s : Bool) (n : ℕ) → HasValue (round binary64 false n 1) false n 1 → Number binary64 (whole_f s n)
whole_number s n h = (finite_of (whole_f s n) s n 1 (whole_f_value s n h), whole_f_fits s n)
