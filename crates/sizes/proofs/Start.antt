-- The start index is -(L/2) with no rounding, for every L that a double counts, and passes the test of an index. Assumes nothing.
use Rattle.std.proofs.Common.{◌≡◌, ℕ, ◌+◌, ◌*◌, ◌^◌, ◌<◌, true, false, sym, refl, ap, ◌∙◌, subst, lt_of_lt_of_le, le_of_lt, mul_assoc, mul-lt-mul_of_pos_right, arith, lit<, lit≤, pow_mono, pow-add, shl_lt, lt-ltb}
use mathlib.Core.Bool.{false≢true}
use lib.Ieee.{Float, nan, inf, fin, binary64, up, down, round, neg, div, lt, of_int, of_bits}
use lib.Ieee.Exact.{HasValue, round_exact}
use lib.Ieee.Fits.{down_pos}
use lib.Ieee.Back.{round_whole}
use lib.Ieee.Scale.{round_same}
use Rattle.exact.specs.Doubles.{count, ◌/f◌, two_f}
use Rattle.sizes.specs.Bounds.{is_index}
use Rattle.sizes.specs.Sizes.{start_of}

-- l / 2 is a double
half_round : (l : ℕ) → l < 2 ^ 53 → HasValue (round binary64 false l 2) false l 2
half_round l h =
    round_exact binary64 false l 2 l 1073 (lit< tt) h (lt_of_lt_of_le (shl_lt 53 1073 h) (pow_mono {i = 1126} {j = 2098} (lit≤ tt)))
    (ap (λ (z : ℕ). l * z) (pow-add 2 1073 1) ∙ sym (mul_assoc l (2 ^ 1073) 2))

half : (x : Float) (l : ℕ) → l < 2 ^ 53 → HasValue x false l 1 → HasValue (x /f two_f) false l 2
unfolding div of_bits
half nan l h v = absurd v
half (inf s) l h v = absurd v
half (fin true m e) l h v = absurd (false≢true (sym v.0))
half (fin false m e) l h v =
    let k : m * up e * 1 * 2 ≡ l * (1 * 2 * down e) = omega (arith, v.1) in
    subst (λ (z : Float). HasValue z false l 2)
    (sym (round_same binary64 false (m * up e * 1) (1 * 2 * down e) l 2 (omega (arith, down_pos e)) (lit< tt) k)) (half_round l h)

opposite : (x : Float) (l d : ℕ) → HasValue x false l d → HasValue (neg x) true l d
unfolding neg
opposite nan l d v = v
opposite (inf s) l d v = v
opposite (fin true m e) l d v = absurd (false≢true (sym v.0))
opposite (fin false m e) l d v = (refl, v.1)

-- -(L/2)
pub start_value : (l : ℕ) → l < 2 ^ 53 → HasValue (start_of l) true l 2
unfolding of_int
start_value l h = opposite (count l /f two_f) l 2 (half (count l) l h (round_whole binary64 false l (le_of_lt h)))

-- a negative number above -2 ^ 17
inside : (x : Float) (l : ℕ) → l < 262144 → HasValue x true l 2 → is_index x ≡ true
unfolding lt of_bits
inside nan l h v = absurd v
inside (inf s) l h v = absurd v
inside (fin false m e) l h v = absurd (false≢true v.0)
inside (fin true m e) l h v =
    rw (lt-ltb (m * up e * 1) (131072 * down e) (omega (arith, mul-lt-mul_of_pos_right h (down_pos e), v.1)))
    (lt-ltb 0 (m * up e * 1 + 131072 * down e) (omega (arith, down_pos e)))

pub start_inside : (l : ℕ) → l < 262144 → is_index (start_of l) ≡ true
start_inside l h = inside (start_of l) l h (start_value l (lt_of_lt_of_le h (lit≤ tt)))
