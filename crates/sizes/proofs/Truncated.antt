-- What the code works out of a double is the size that the definition says, and the size's truncation is `trunc_of`. Assumes nothing.
use Rattle.std.proofs.Common.{◌≡◌, ℕ, ◌+◌, ◌*◌, ◌/◌, ◌^◌, ◌<◌, ◌≤◌, Bool, true, false, cond, T, sym, refl, ap, ◌∙◌, inl, true≢false, div-lt_iff_lt-mul, le-div_iff_mul-le, zero-mul, mul-one, mul-div_cancel, arith, ltb-false, ltb-true}
use mathlib.Core.Bool.{false≢true}
use native.Mathlib.Nat.{min-eq_left}
use borrow.Author.Tests.{lt-leb}
use lib.Ieee.{Float, nan, inf, fin, binary64, up, down, fits, lt, of_int, of_bits, to_unsigned}
use lib.Ieee.Back.{round_whole}
use lib.Ieee.Exact.{HasValue}
use lib.Ieee.Fits.{down_pos}
use Rattle.exact.specs.Doubles.{zero_f, count}
use Rattle.whole.specs.Rounded.{whole_f, made_whole, trunc_of}
use Rattle.whole.proofs.Held.{next_value, whole_f_value}
use Rattle.whole.proofs.Sizes.{NotBelow, no_number, endless, a_size, minus_zero, not_below}
use Rattle.sizes.specs.Bounds.{high_f}
use Rattle.sizes.specs.Sizes.{size_of, size_of_count}
use Rattle.std.specs.Prelude.{Some, None}

-- below 0: none
pub size_none : (x : Float) → lt x zero_f ≡ true → size_of x ≡ Some 0
unfolding size_of lt of_bits
size_none nan h = absurd (false≢true h)
size_none (inf true) h = refl
size_none (inf false) h = absurd (false≢true h)
size_none (fin true m e) h = refl
size_none (fin false m e) h = absurd (omega (arith, simp zero-mul at (ltb-true (m * up e * 1) (0 * down e) h)))

-- not below 0, and below 2 ^ 17: the whole part
pub size_cut : (x : Float) (n : ℕ) → lt x high_f ≡ true → lt x zero_f ≡ false → n ≡ to_unsigned 64 x → size_of_count n ≡ size_of x
unfolding size_of lt of_bits to_unsigned
size_cut x n q p h = go (not_below x p) q h
  where
    go : {x : Float} → NotBelow x → lt x high_f ≡ true → n ≡ to_unsigned 64 x → size_of_count n ≡ size_of x
    go no_number q h = absurd (false≢true q)
    go endless q h = absurd (false≢true q)
    go (a_size m e) q h =
        let b : m * up e < 131072 * down e = simp mul-one at (ltb-true (m * up e * 1) (131072 * down e) q) in
        let l : m * up e / down e < 131072 = (div-lt_iff_lt-mul (down_pos e)).1 b in
        ap size_of_count (h ∙ min-eq_left (omega arith))
    go (minus_zero e) q h = ap size_of_count h

-- not below 2 ^ 17: too large
pub size_large : (x : Float) → lt x high_f ≡ false → size_of x ≡ None
unfolding size_of lt of_bits
size_large nan q = refl
size_large (inf true) q = absurd (true≢false q)
size_large (inf false) q = refl
size_large (fin true m e) q = absurd (omega (arith, down_pos e, ltb-false 0 (m * up e * 1 + 131072 * down e) q))
size_large (fin false m e) q =
    let h : 131072 * down e ≤ m * up e = simp mul-one at (ltb-false (m * up e * 1) (131072 * down e) q) in
    let k : 131072 ≤ m * up e / down e = (le-div_iff_mul-le (down_pos e)).1 h in
    rw (lt-leb (m * up e / down e) 65536 (omega arith))

-- ---- the one truncation: a size is the size of the double truncated, and that of a whole number is its count
size_whole : (y : Float) (s : Bool) (n : ℕ) → HasValue y s n 1 → size_of y ≡ cond s (Some 0) (size_of_count n)
unfolding size_of
size_whole nan s n v = absurd v
size_whole (inf t) s n v = absurd v
size_whole (fin true m e) s n v = ap (λ (b : Bool). cond b (Some 0) (size_of_count n)) v.0
size_whole (fin false m e) s n v =
    let k : m * up e / down e ≡ n = ap (λ (a : ℕ). a / down e) (sym (mul-one (m * up e)) ∙ v.1) ∙ mul-div_cancel n (down_pos e) in
    ap size_of_count k ∙ ap (λ (b : Bool). cond b (Some 0) (size_of_count n)) v.0

pub size_trunc : (x : Float) → T (fits binary64 x) → size_of (trunc_of x) ≡ size_of x
unfolding size_of made_whole
size_trunc nan t = refl
size_trunc (inf s) t = refl
size_trunc (fin s m e) t =
    let n = m * up e / down e in
    size_whole (whole_f s n) s n (whole_f_value s n (next_value binary64 s m e n t (inl refl))) ∙ go s
  where
    go : (b : Bool) → cond b (Some 0) (size_of_count (m * up e / down e)) ≡ size_of (fin b m e)
    go true = refl
    go false = refl

pub size_count : (n : ℕ) → n ≤ 2 ^ 53 → size_of (count n) ≡ size_of_count n
unfolding of_int
size_count n h = size_whole (count n) false n (round_whole binary64 false n h)
