-- What a double is beside its whole part is a double: the difference is exact. Assumes nothing.
use mathlib.Core.Bool.{Bool, true, false}
use mathlib.Core.Logic.{inl}
use mathlib.Core.Path.{◌≡◌, refl, sym, ap, ◌∙◌, subst}
use Prim.Native.Nat.{ℕ, zero, suc, ◌+◌, ◌-◌, ◌*◌, ◌/◌, ◌%◌, ◌^◌, ◌≤◌, ◌<◌}
use native.Mathlib.Nat.{lt_of_le_of_lt, lt_of_lt_of_le, mul-one, mul_assoc, zero-mul, zero-mod, mod-le, mod-one}
use native.Mathlib.Omega.{arith}
use lib.Dec.{T}
use lib.IntN.{ℤ, pos, negsuc}
use lib.Ieee.{fin, Format, binary64, prec, emax, low, up, down, fits}
use lib.Ieee.Digits.{back}
use lib.Ieee.Fits.{reach, sub-fits}
use lib.Ieee.Scale.{overflow}
use lib.Pow.{pow-add, pow_pos, pow_mono, shl_lt}
use Rattle.exact.specs.Doubles.{◌-f◌}
use Rattle.exact.specs.Exact.{mag, exact, Number}
use Rattle.exact.specs.Rounding.{RoundOf}
use Rattle.exact.specs.Whole.{Whole, signed, ◌⊖◌, Same}
use Rattle.exact.proofs.Exact.{places_le}
use Rattle.exact.proofs.Sums.{sub_is, keeps_of}
use Rattle.whole.specs.Rounded.{whole_f}
use Rattle.whole.proofs.Held.{digits_lt, next_value}
use Rattle.whole.proofs.Units.{shared, ones_rest, whole_exact, whole_number}

-- what is left over, r / d, is r * 2 ^ j units with few digits in r
pub record Few (f : Format) (r d : ℕ) : Type 0 where
  pub q : ℕ
  pub j : ℕ
  pub is : q * 2 ^ j * d ≡ r * 2 ^ low f
  pub digits : q < 2 ^ prec f
  pub fine : j ≤ low f

pub left_few : (f : Format) (s : Bool) (m : ℕ) (e : ℤ) → T (fits f (fin s m e)) → Few f (m * up e % down e) (down e)
left_few f s zero e t = record { q = 0; j = 0; is = rw (zero-mul (up e), zero-mod (down e)) (omega arith); digits = pow_pos (prec f); fine = omega arith }
left_few f s (suc m) (pos k) t = record { q = 0; j = 0; is = rw (mod-one (suc m * 2 ^ k)) (omega arith); digits = pow_pos (prec f); fine = omega arith }
left_few f s (suc m) (negsuc k) t =
    let r = suc m * 1 % 2 ^ suc k in
    let j = low f - suc k in
    record {
      q = r;
      j = j;
      is = mul_assoc r (2 ^ j) (2 ^ suc k) ∙ ap (λ (x : ℕ). r * x) (sym (pow-add 2 j (suc k)) ∙ ap (λ (x : ℕ). 2 ^ x) (back (low f) (suc k) (places_le f s m k t)));
      digits = lt_of_le_of_lt (mod-le (suc m * 1) (2 ^ suc k)) (rw mul-one (digits_lt f s (suc m) (negsuc k) t));
      fine = omega arith;
    }

beside : (s : Bool) (M g k : ℕ) → M ≡ k + g → Same (signed s g) (signed s M ⊖ signed s k)
beside false M g k h = omega arith
beside true M g k h = omega arith

under_top : (f : Format) (q j : ℕ) → q < 2 ^ prec f → j ≤ low f → q * 2 ^ j < overflow f
under_top f q j h k = lt_of_lt_of_le (shl_lt (prec f) j h) (pow_mono (small f j k))
  where
    small : (f : Format) (j : ℕ) → j ≤ low f → prec f + j ≤ low f + suc (emax f)
    small f j k = omega (arith, reach f)

pub sub_part : (s : Bool) (m : ℕ) (e : ℤ) → T (fits binary64 (fin s m e))
    → let x = fin s m e in let n = m * up e / down e in Number binary64 (x -f whole_f s n) × Same (exact binary64 (x -f whole_f s n)) (signed s (mag binary64 x) ⊖ signed s (n * 2 ^ low binary64))
unfolding exact
sub_part s m e t =
    let x = fin s m e in
    let n = m * up e / down e in
    let K = n * 2 ^ low binary64 in
    let v = next_value binary64 s m e n t (inl refl) in
    let w = left_few binary64 s m e t in
    let g = w.q * 2 ^ w.j in
    let r = subst (λ (u : Whole). RoundOf binary64 (x -f whole_f s n) (signed s (mag binary64 x) ⊖ u)) (whole_exact s n v) (sub_is binary64 x (whole_f s n) (tt, t) (whole_number s n v)) in
    let k = keeps_of binary64 (x -f whole_f s n) (signed s (mag binary64 x) ⊖ signed s K) s w.q w.j r
    (beside s (mag binary64 x) g K (ones_rest (shared binary64 s m e t) g w.is))
    w.digits (under_top binary64 w.q w.j w.digits w.fine) in
    ((k.0, sub-fits binary64 x (whole_f s n)), k.1)
