-- A whole number up to 2 ^ 53 as an integer: what `truncating_f64_to_i64` and `truncating_f64_to_u64` ask, and what they answer. Assumes nothing.
use mathlib.Core.Bool.{Bool, true, false, ◌||◌, cond}
use mathlib.Core.Path.{◌≡◌, refl, sym, ap, ◌∙◌, subst}
use Prim.Native.Nat.{ℕ, zero, suc, ◌+◌, ◌*◌, ◌/◌, ◌^◌, ◌≤◌, ◌<◌}
use native.Mathlib.Nat.{le_trans, zero-mul, mul-one, mul-div_cancel, mul-le-mul_right, min-eq_left}
use native.Mathlib.Omega.{arith}
use lib.Dec.{T, lt→ltb}
use lib.IntN.{ℤ, pos, negsuc, neg_ℤ, nat_abs}
use lib.Ieee.{Float, nan, inf, fin, binary64, low, up, down, to_unsigned, to_signed, lt, eq, le}
use lib.Ieee.Back.{round_whole}
use lib.Ieee.Exact.{HasValue}
use lib.Ieee.Fits.{down_pos}
use lib.Pow.{pow_pos, pow_mono}
use mir.Syntax.{w64}
use mir.Val.{SFits}
use Rattle.exact.specs.Whole.{signed, AtMost}
use Rattle.exact.specs.Exact.{exact}
use Rattle.whole.specs.Numbers.{Counted}
use Rattle.whole.proofs.Held.{whole_f_value}

-- what is no larger than 2 ^ 62 is an i64
pub abs_fits : (z : ℤ) → nat_abs z ≤ 4611686018427387904 → SFits w64 z
abs_fits (pos n) h = record { sfits = omega arith }
abs_fits (negsuc n) h = record { sfits = omega arith }

cut_is : (m : ℕ) (e : ℤ) (n : ℕ) → m * up e * 1 ≡ n * down e → m * up e / down e ≡ n
cut_is m e n h = ap (λ (x : ℕ). x / down e) (sym (mul-one (m * up e)) ∙ h) ∙ mul-div_cancel n (down_pos e)

lt_le : (x y : Float) → T (lt x y) → T (le x y)
unfolding le
lt_le x y h = go (lt x y) h
  where
    go : (b : Bool) → T b → T (b || eq x y)
    go true t = tt
    go false t = absurd t

signed_back : (y : Float) (s : Bool) (n : ℕ) → HasValue y s n 1 → n ≤ 9007199254740992
    → T (le (fin true 1 (pos 63)) y) × T (lt y (fin false 1 (pos 63))) × (to_signed 63 y ≡ cond s (neg_ℤ (pos n)) (pos n))
unfolding lt to_signed
signed_back nan s n h l = absurd h
signed_back (inf t) s n h l = absurd h
signed_back (fin true m e) s n h l =
    let w : m * up e * 1 < 9223372036854775808 * down e = omega (arith, h.1, mul-le-mul_right (down e) l, down_pos e) in (
      lt_le (fin true 1 (pos 63)) (fin true m e) (lt→ltb (m * up e * 1) (9223372036854775808 * down e) w),
      lt→ltb 0 (m * up e * 1 + 9223372036854775808 * down e) (omega (arith, down_pos e)),
      rw (← h.0, cut_is m e n h.1, min-eq_left {n = n} {m = 9223372036854775808} (omega arith)),
    )
signed_back (fin false m e) s n h l =
    let w : m * up e * 1 < 9223372036854775808 * down e = omega (arith, h.1, mul-le-mul_right (down e) l, down_pos e) in (
      lt_le (fin true 1 (pos 63)) (fin false m e) (lt→ltb 0 (9223372036854775808 * down e + m * up e * 1) (omega (arith, down_pos e))),
      lt→ltb (m * up e * 1) (9223372036854775808 * down e) w,
      rw (← h.0, cut_is m e n h.1, min-eq_left {n = n} {m = 9223372036854775807} (omega arith)),
    )

unsigned_back : (y : Float) (s : Bool) (n : ℕ) → HasValue y s n 1 → n ≤ 9007199254740992 → (s ≡ true → n ≡ 0)
    → T (lt (fin true 1 (pos 0)) y) × T (lt y (fin false 1 (pos 64))) × (to_unsigned 64 y ≡ n)
unfolding lt to_unsigned
unsigned_back nan s n h l z = absurd h
unsigned_back (inf t) s n h l z = absurd h
unsigned_back (fin true m e) s n h l z =
    let i : n ≡ 0 = z (sym h.0) in
    let w : m * up e * 1 ≡ 0 = (rw i at h.1) ∙ zero-mul (down e) in (
      lt→ltb (m * up e * 1) (1 * down e) (omega (arith, down_pos e)),
      lt→ltb 0 (m * up e * 1 + 18446744073709551616 * down e) (omega (arith, down_pos e)),
      sym i,
    )
unsigned_back (fin false m e) s n h l z = (
  lt→ltb 0 (1 * down e + m * up e * 1) (omega (arith, down_pos e)),
  lt→ltb (m * up e * 1) (18446744073709551616 * down e) (omega (arith, h.1, mul-le-mul_right (down e) l, down_pos e)),
  rw (cut_is m e n h.1) (min-eq_left {n = n} {m = 18446744073709551615} (omega arith)),
)

fine : (k n : ℕ) → n ≤ 2 ^ k → k ≤ 53 → n ≤ 9007199254740992
fine k n h l = le_trans h (pow_mono {i = k} {j = 53} l)

counted_value : (k : ℕ) (y : Float) (c : Counted k y) → k ≤ 53 → HasValue y c.sign c.ones 1
counted_value k y c l =
    subst (λ (z : Float). HasValue z c.sign c.ones 1) (sym c.is)
    (whole_f_value c.sign c.ones (round_whole binary64 false c.ones (fine k c.ones c.at_most l)))

pub counted_signed : (k : ℕ) (y : Float) (c : Counted k y) → k ≤ 53
    → T (le (fin true 1 (pos 63)) y) × T (lt y (fin false 1 (pos 63))) × (to_signed 63 y ≡ cond c.sign (neg_ℤ (pos c.ones)) (pos c.ones))
counted_signed k y c l = signed_back y c.sign c.ones (counted_value k y c l) (fine k c.ones c.at_most l)

-- a negative zero is the only one with the sign whose value is not below 0
counted_zero : (k : ℕ) (y : Float) (c : Counted k y) → AtMost (0, 0) (exact binary64 y) → c.sign ≡ true → c.ones ≡ 0
counted_zero k y c h i =
    no_size c.ones (2 ^ low binary64) (pow_pos (low binary64)) (subst (AtMost (0, 0)) (c.value ∙ ap (λ (s : Bool). signed s (c.ones * 2 ^ low binary64)) i) h)
  where
    no_size : (n U : ℕ) → 0 < U → AtMost (0, 0) (0, n * U) → n ≡ 0
    no_size zero U P h = refl
    no_size (suc n) U P h = absurd (omega arith)

pub counted_unsigned : (k : ℕ) (y : Float) (c : Counted k y) → k ≤ 53 → AtMost (0, 0) (exact binary64 y)
    → T (lt (fin true 1 (pos 0)) y) × T (lt y (fin false 1 (pos 64))) × (to_unsigned 64 y ≡ c.ones)
counted_unsigned k y c l h = unsigned_back y c.sign c.ones (counted_value k y c l) (fine k c.ones c.at_most l) (counted_zero k y c h)
