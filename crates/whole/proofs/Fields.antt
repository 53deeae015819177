-- What the bits of a double say: above the 52 digits stands the exponent's field, and above that the sign. From there the whole part. Assumes nothing.
use mathlib.Core.Bool.{Bool, true, false, not, true≢false}
use mathlib.Core.Logic.{◌⊎◌, inl, inr}
use mathlib.Core.Path.{◌≡◌, refl, sym, ap, ◌∙◌, subst}
use Prim.Native.Nat.{ℕ, zero, suc, ◌+◌, ◌-◌, ◌*◌, ◌/◌, ◌%◌, ◌^◌, ◌≤◌, ◌<◌}
use native.Mathlib.Nat.{lt_of_lt_of_le, lt_of_le_of_lt, mul_assoc, zero-mul, mod-lt, mod-eq_of_lt, div-eq_of_lt, div-lt_iff_lt-mul, eq_of_mul-eq-mul_right, mul_right_comm, mul-lt-mul_of_pos_right, lt_irrefl}
use native.Mathlib.Omega.{arith}
use borrow.Author.Tests.{lt-leb, le-ltb, ne_eqb}
use lib.Bits.{bit_and, and_mask}
use lib.Dec.{T, lit≤}
use lib.IntN.{ℤ, pos}
use lib.Ieee.{Float, nan, inf, fin, binary64, prec, up, down, size, fits, of_int, of_fields, of_bits, to_bits, nan_bits, lt, ne}
use lib.Ieee.Back.{round_whole, whole_unique}
use lib.Ieee.Bits.{of_bits-to_bits, of_bits-fits, nan_bits_above}
use lib.Ieee.Compare.{differs_from_itself}
use lib.Ieee.Digits.{size-le}
use lib.Ieee.Exact.{HasValue, odd_sign}
use lib.Ieee.Fits.{down_pos, kept-lt, of_int-fits}
use lib.Ieee.Nearest.{div_same}
use lib.Pow.{pow-add, pow_pos, pow_mono, shl_lt, shl-shr, shr-shr, split, high, mod-pow-add, ones_lt, ones_split}
use lib.Pow as Pow
use Rattle.exact.specs.Doubles.{count, zero_f}
use Rattle.whole.specs.Rounded.{made_whole, trunc_of}
use Rattle.whole.proofs.Held.{few, whole_back, whole_f_value}
use Rattle.whole.proofs.Sizes.{NotBelow, no_number, endless, a_size, minus_zero, not_below, no_left}

-- ---- what a field and digits stand for, in units of 2 ^ -1074: a field of 0 has no leading digit
abbrev units_of : ℕ → ℕ → ℕ
units_of zero t = t * 2 ^ 0
units_of (suc j) t = (2 ^ 52 + t) * 2 ^ j

fields_are : (s : Bool) (e t : ℕ) → e < 2047 → HasValue (of_fields binary64 s e t) s (units_of e t) (2 ^ 1074)
unfolding of_fields
fields_are s zero t h = odd_sign 53 s t 0 1074
fields_are s (suc j) t h = rw (ne_eqb (suc j) 2047 (λ p. omega arith)) (odd_sign 53 s (2 ^ 52 + t) j 1074)

-- a pattern without the sign, below the infinity's
bits_are : (b : ℕ) → b / 2 ^ 52 < 2047 → HasValue (of_bits binary64 b) false (units_of (b / 2 ^ 52) (b % 2 ^ 52)) (2 ^ 1074)
unfolding of_bits
bits_are b h =
    let l : b < 2 ^ 63 = omega (arith, (div-lt_iff_lt-mul {k = 2 ^ 52} (pow_pos 52)).0 h) in
    rw (lt-leb (2 ^ 63) b l, mod-eq_of_lt l) (fields_are false (b / 2 ^ 52) (b % 2 ^ 52) h)

-- the whole part of a size a / c
trunc_is : (x : Float) (a c : ℕ) → 0 < c → HasValue x false a c → trunc_of x ≡ count (a / c)
unfolding made_whole
trunc_is nan a c p h = absurd h
trunc_is (inf s) a c p h = absurd h
trunc_is (fin true m e) a c p h = absurd (true≢false h.0)
trunc_is (fin false m e) a c p h = ap count (div_same (m * up e) (down e) a c (down_pos e) p h.1)

-- w * c units of which c make one
ones_are : (x : Float) (w c : ℕ) → 0 < c → HasValue x false (w * c) c → HasValue x false w 1
ones_are nan w c p h = h
ones_are (inf s) w c p h = h
ones_are (fin s m e) w c p h = (h.0, eq_of_mul-eq-mul_right c p (m * up e * 1) (w * down e) (omega (arith, h.1)))

-- ---- a field below 1023: less than one, and nothing is left
units_lt : (e t : ℕ) → t < 2 ^ 52 → e < 1023 → units_of e t < 2 ^ 1074
units_lt zero t h l = lt_of_lt_of_le (shl_lt 52 0 h) (pow_mono {i = 52} {j = 1074} (lit≤ tt))
units_lt (suc j) t h l = lt_of_lt_of_le (shl_lt {a = 2 ^ 52 + t} 53 j (omega arith)) (pow_mono {i = 53 + j} {j = 1074} (omega arith))

nothing : zero_f ≡ count 0
unfolding of_bits of_int
nothing = refl

low_none : (b : ℕ) → b / 2 ^ 52 < 1023 → zero_f ≡ trunc_of (of_bits binary64 b)
low_none b h =
    nothing
    ∙ ap count (sym (div-eq_of_lt (units_lt (b / 2 ^ 52) (b % 2 ^ 52) (mod-lt b (pow_pos 52)) h)))
    ∙ sym (trunc_is (of_bits binary64 b) (units_of (b / 2 ^ 52) (b % 2 ^ 52)) (2 ^ 1074) (pow_pos 1074) (bits_are b (omega arith)))

-- ---- a field of 1023 + i, i up to 51: k of the 52 digits are worth less than one, and i are not
-- the digits' places, moved right by i
mask_is : (i k : ℕ) → i + k ≡ 52 → (2 ^ 52 - 1) / 2 ^ i ≡ 2 ^ k - 1
mask_is i k ik =
    ap (λ (n : ℕ). (2 ^ n - 1) / 2 ^ i) (sym ik ∙ omega arith)
    ∙ ap (λ (n : ℕ). n / 2 ^ i) (ones_split k i)
    ∙ high (2 ^ k - 1) i (ones_lt i)

module _ (i k b : ℕ) (ik : i + k ≡ 52) (at : b / 2 ^ 52 ≡ suc (1022 + i)) where
  -- the i digits that stay, and the whole number that they are under the leading one
  abbrev kept : ℕ
  kept = b / 2 ^ k % 2 ^ i

  abbrev ones : ℕ
  ones = 2 ^ i + kept

  kept_lt_pow : kept < 2 ^ i
  kept_lt_pow = mod-lt (b / 2 ^ k) (pow_pos i)

  pows : 2 ^ i * 2 ^ k ≡ 2 ^ 52
  pows = sym (pow-add 2 i k) ∙ ap (λ (n : ℕ). 2 ^ n) ik

  digits_are : b % 2 ^ 52 ≡ kept * 2 ^ k + b % 2 ^ k
  digits_are = ap (λ (n : ℕ). b % 2 ^ n) (sym ik) ∙ mod-pow-add b i k

  under_lead : 2 ^ 52 + kept * 2 ^ k ≡ ones * 2 ^ k
  under_lead = omega (arith, pows)

  units_shift : (n : ℕ) → n * 2 ^ (1022 + i) / 2 ^ 1074 ≡ n / 2 ^ k
  units_shift n =
      let e : 1074 ≡ 1022 + i + k = omega arith in
      ap (λ (p : ℕ). n * 2 ^ (1022 + i) / 2 ^ p) e ∙ sym (shr-shr (n * 2 ^ (1022 + i)) (1022 + i) k) ∙ ap (λ (a : ℕ). a / 2 ^ k) (shl-shr n (1022 + i))

  trunc_bits : trunc_of (of_bits binary64 b) ≡ count ones
  trunc_bits =
      let n = 2 ^ 52 + b % 2 ^ 52 in
      let v = subst (λ (e : ℕ). HasValue (of_bits binary64 b) false (units_of e (b % 2 ^ 52)) (2 ^ 1074)) at (bits_are b (omega (arith, at))) in
      let d : n ≡ ones * 2 ^ k + b % 2 ^ k = omega (arith, digits_are, under_lead) in
      trunc_is (of_bits binary64 b) (n * 2 ^ (1022 + i)) (2 ^ 1074) (pow_pos 1074) v ∙ ap count (units_shift n ∙ ap (λ (a : ℕ). a / 2 ^ k) d ∙ high ones k (mod-lt b (pow_pos k)))

  -- the pattern without the k last digits
  cut_is : b - b % 2 ^ k ≡ suc (1022 + i) * 2 ^ 52 + kept * 2 ^ k
  cut_is = omega (arith, split b 52, digits_are, at)

  kept_below : kept * 2 ^ k < 2 ^ 52
  kept_below = subst (λ (n : ℕ). kept * 2 ^ k < 2 ^ n) ik (shl_lt i k kept_lt_pow)

  few_ones : ones ≤ 2 ^ 53
  few_ones = let h = pow_mono {i = i} {j = 52} (omega arith) in omega (arith, kept_lt_pow)

  back_to_ones : ones * 2 ^ k * 2 ^ (1022 + i) ≡ ones * 2 ^ 1074
  back_to_ones =
      let e : k + (1022 + i) ≡ 1074 = omega arith in
      mul_assoc ones (2 ^ k) (2 ^ (1022 + i)) ∙ ap (λ (p : ℕ). ones * p) (sym (pow-add 2 k (1022 + i)) ∙ ap (λ (p : ℕ). 2 ^ p) e)

  cut_value : HasValue (of_bits binary64 (suc (1022 + i) * 2 ^ 52 + kept * 2 ^ k)) false ones 1
  cut_value =
      let c = suc (1022 + i) * 2 ^ 52 + kept * 2 ^ k in
      let f : c / 2 ^ 52 ≡ suc (1022 + i) = high (suc (1022 + i)) 52 kept_below in
      let v = subst (λ (e : ℕ). HasValue (of_bits binary64 c) false (units_of e (c % 2 ^ 52)) (2 ^ 1074)) f (bits_are c (omega (arith, f))) in
      let u : (2 ^ 52 + c % 2 ^ 52) * 2 ^ (1022 + i) ≡ ones * 2 ^ 1074 = ap (λ (t : ℕ). (2 ^ 52 + t) * 2 ^ (1022 + i)) (Pow.low (suc (1022 + i)) 52 kept_below) ∙ ap (λ (t : ℕ). t * 2 ^ (1022 + i)) under_lead ∙ back_to_ones in
      ones_are (of_bits binary64 c) ones (2 ^ 1074) (pow_pos 1074) (subst (λ (a : ℕ). HasValue (of_bits binary64 c) false a (2 ^ 1074)) u v)

  cut_part : of_bits binary64 (b - b % 2 ^ k) ≡ trunc_of (of_bits binary64 b)
  cut_part =
      ap (of_bits binary64) cut_is
      ∙ whole_unique binary64 (of_bits binary64 (suc (1022 + i) * 2 ^ 52 + kept * 2 ^ k)) (count ones) false ones (of_bits-fits binary64 (suc (1022 + i) * 2 ^ 52 + kept * 2 ^ k)) (of_int-fits binary64 (pos ones)) cut_value (whole_f_value false ones (round_whole binary64 false ones few_ones))
      ∙ sym trunc_bits

-- ---- a field of 1075 or more: no digit is worth less than one
-- x has such a digit only below 2 ^ 52, and there the field is smaller
field_lt : (m : ℕ) (e : ℤ) → m * up e < 2 ^ prec binary64 → 2 ≤ down e → to_bits binary64 (fin false m e) / 2 ^ 52 < 1075
unfolding to_bits
field_lt m e h d =
    let n = m * up e * 2 ^ 1074 / down e in
    let l : m * up e < 2 ^ 52 * down e = omega arith in
    let s : size n ≤ 1126 = size-le n 1126 ((div-lt_iff_lt-mul (down_pos e)).1 (wide (m * up e) (down e) l)) in
    (div-lt_iff_lt-mul {k = 2 ^ 52} (pow_pos 52)).1 (omega (arith, kept-lt 53 n))
  where
    wide : (a d : ℕ) → a < 2 ^ 52 * d → a * 2 ^ 1074 < 2 ^ 1126 * d
    wide a d l = subst (λ (p : ℕ). a * 2 ^ 1074 < p) (mul_right_comm (2 ^ 52) d (2 ^ 1074) ∙ ap (λ (p : ℕ). p * d) (sym (pow-add 2 52 1074))) (mul-lt-mul_of_pos_right l (pow_pos 1074))

no_fraction : (m : ℕ) (e : ℤ) → T (fits binary64 (fin false m e)) → 1075 ≤ to_bits binary64 (fin false m e) / 2 ^ 52 → m * up e % down e ≡ 0
no_fraction m e t h = go (few binary64 false m e t)
  where
    go : (m * up e % down e ≡ 0) ⊎ ((m * up e < 2 ^ prec binary64) × (2 ≤ down e)) → m * up e % down e ≡ 0
    go (inl z) = z
    go (inr (b, d)) = absurd (lt_irrefl 1075 (lt_of_le_of_lt h (field_lt m e b d)))

-- ---- `part`, by the bits of x
pub part_nan : (x : Float) → ne x x ≡ true → x ≡ trunc_of x
unfolding made_whole
part_nan x h = rw (differs_from_itself x (subst T (sym h) tt))

pub part_same : (x : Float) → T (fits binary64 x) → lt x zero_f ≡ false → 1075 ≤ to_bits binary64 x / 2 ^ 52 → x ≡ trunc_of x
unfolding made_whole
part_same x t p h = go (not_below x p) t h
  where
    go : {x : Float} → NotBelow x → T (fits binary64 x) → 1075 ≤ to_bits binary64 x / 2 ^ 52 → x ≡ trunc_of x
    go no_number t h = refl
    go endless t h = refl
    go (a_size m e) t h = sym (whole_back false m e t (no_fraction m e t h))
    go (minus_zero e) t h = sym (whole_back true zero e t (no_left zero e (zero-mul (up e))))

pub part_none : (x : Float) → T (fits binary64 x) → to_bits binary64 x / 2 ^ 52 < 1023 → zero_f ≡ trunc_of x
part_none x t h = low_none (to_bits binary64 x) h ∙ ap trunc_of (of_bits-to_bits binary64 x t)

pub part_cut : (x : Float) → T (fits binary64 x) → 1023 ≤ to_bits binary64 x / 2 ^ 52 → to_bits binary64 x / 2 ^ 52 < 1075
    → let b = to_bits binary64 x in of_bits binary64 (b - bit_and b ((2 ^ 52 - 1) / 2 ^ (b / 2 ^ 52 - 1023))) ≡ trunc_of x
part_cut x t l h =
    let b = to_bits binary64 x in
    let i = b / 2 ^ 52 - 1023 in
    let k = 52 - i in
    let ik : i + k ≡ 52 = omega arith in
    let at : b / 2 ^ 52 ≡ suc (1022 + i) = omega arith in
    ap (λ (n : ℕ). of_bits binary64 (b - n)) (ap (bit_and b) (mask_is i k ik) ∙ and_mask b k) ∙ cut_part i k b ik at ∙ ap trunc_of (of_bits-to_bits binary64 x t)

pub cut_no_nan : (b n : ℕ) → b / 2 ^ 52 < 1075 → T (not (nan_bits binary64 (b - n)))
cut_no_nan b n h =
    let l : b < 1075 * 2 ^ 52 = (div-lt_iff_lt-mul {k = 2 ^ 52} (pow_pos 52)).0 h in
    let m : b - n < 2 ^ 63 = omega arith in
    rw (nan_bits_above binary64 (b - n), mod-eq_of_lt m, le-ltb (2047 * 2 ^ 52) (b - n) (omega arith)) tt
