-- A double that fits is a whole number, or it is a fraction whose numerator the format holds. So the whole numbers next to it are doubles. Assumes nothing.
use mathlib.Core.Bool.{Bool, true, false, not, ◌&&◌}
use mathlib.Core.Logic.{◌⊎◌, inl, inr}
use mathlib.Core.Path.{◌≡◌, refl, ap, ◌∙◌}
use Prim.Native.Nat.{ℕ, zero, suc, ◌+◌, ◌*◌, ◌/◌, ◌%◌, ◌^◌, ◌≤◌, ◌<◌}
use native.Mathlib.Nat.{zero-lt-suc, le_trans, le_of_lt, lt_of_le_of_lt, mul-pos, zero-mul, mul-one, mul_assoc, mul-lt-mul_of_pos_right, add_comm, mod-one, div-one, div-le_self, div-add-mod', lt_irrefl}
use native.Mathlib.Omega.{arith}
use lib.Dec.{T, eqb, leb, ltb, ltb→lt}
use lib.IntN.{ℤ, pos, negsuc}
use lib.Ieee.{Float, nan, inf, fin, Format, binary64, prec, emax, low, up, down, round, fits, neg, of_int}
use lib.Ieee.Back.{round_whole, whole_unique}
use lib.Ieee.Exact.{HasValue, round_exact}
use lib.Ieee.Fits.{down_pos, and_l, and_r, of_int-fits, neg-fits}
use lib.Pow.{pow-add, pow_pos, pow_mono}
use Rattle.exact.specs.Doubles.{count}
use Rattle.whole.specs.Rounded.{whole_f}

-- ---- of what fits: the digits, and the largest exponent
pub digits_lt : (f : Format) (s : Bool) (m : ℕ) (e : ℤ) → T (fits f (fin s m e)) → m < 2 ^ prec f
unfolding fits
digits_lt f s zero e t = pow_pos (prec f)
digits_lt f s (suc m) e t =
    let a : Bool = eqb (suc m % 2) 1 in
    let b : Bool = ltb (suc m) (2 ^ prec f) in
    let c : Bool = leb (down e) (2 ^ low f) in
    ltb→lt (suc m) (2 ^ prec f) (and_r a b (and_l (a && b) c (and_l (a && b && c) (ltb (suc m * up e) (2 ^ suc (emax f) * down e)) t)))

top_lt : (f : Format) (s : Bool) (m : ℕ) (e : ℤ) → T (fits f (fin s m e)) → m * up e < 2 ^ suc (emax f) * down e
unfolding fits
top_lt f s zero e t = rw zero-mul (mul-pos (pow_pos (suc (emax f))) (down_pos e))
top_lt f s (suc m) e t =
    ltb→lt (suc m * up e) (2 ^ suc (emax f) * down e)
    (and_r (eqb (suc m % 2) 1 && ltb (suc m) (2 ^ prec f) && leb (down e) (2 ^ low f)) (ltb (suc m * up e) (2 ^ suc (emax f) * down e)) t)

-- a fraction over 2 or more has few digits
pub few : (f : Format) (s : Bool) (m : ℕ) (e : ℤ) → T (fits f (fin s m e)) → (m * up e % down e ≡ 0) ⊎ ((m * up e < 2 ^ prec f) × (2 ≤ down e))
few f s m (pos k) t = inl (mod-one (m * 2 ^ k))
few f s m (negsuc k) t = inr (rw mul-one (digits_lt f s m (negsuc k) t), pow_mono {i = 1} {j = suc k} (omega arith))

-- ---- the whole numbers next to a double are doubles
-- n is the whole part of a / d, or the next whole number where something is left over
abbrev pub Next : ℕ → ℕ → ℕ → Type 0
Next a d n = (n ≡ a / d) ⊎ ((n ≡ suc (a / d)) × (0 < a % d))

part_value : (f : Format) (s : Bool) (m : ℕ) (e : ℤ) → T (fits f (fin s m e)) → HasValue (round f false (m * up e / down e) 1) false (m * up e / down e) 1
part_value f s m (pos k) t =
    rw (div-one (m * 2 ^ k))
    (round_exact f false (m * 2 ^ k) 1 m (k + low f) (zero-lt-suc 0) (digits_lt f s m (pos k) t)
    (rw (pow-add 2 k (low f), ← mul_assoc, add_comm (low f) (suc (emax f)), pow-add 2 (suc (emax f)) (low f)) (mul-lt-mul_of_pos_right (simp mul-one at (top_lt f s m (pos k) t)) (pow_pos (low f))))
    (rw (pow-add 2 k (low f), ← mul_assoc, mul-one)))
part_value f s m (negsuc k) t =
    round_whole f false (m * 1 / 2 ^ suc k) (le_trans (div-le_self (m * 1) (2 ^ suc k)) (rw mul-one (le_of_lt (digits_lt f s m (negsuc k) t))))

over_value : (f : Format) (s : Bool) (m : ℕ) (e : ℤ) → T (fits f (fin s m e)) → 0 < m * up e % down e → HasValue (round f false (suc (m * up e / down e)) 1) false (suc (m * up e / down e)) 1
over_value f s m (pos k) t h = absurd (lt_irrefl 0 (rw mod-one at h))
over_value f s m (negsuc k) t h =
    round_whole f false (suc (m * 1 / 2 ^ suc k)) (lt_of_le_of_lt (div-le_self (m * 1) (2 ^ suc k)) (rw mul-one (digits_lt f s m (negsuc k) t)))

pub next_value : (f : Format) (s : Bool) (m : ℕ) (e : ℤ) (n : ℕ) → T (fits f (fin s m e)) → Next (m * up e) (down e) n → HasValue (round f false n 1) false n 1
next_value f s m e n t (inl p) = rw p (part_value f s m e t)
next_value f s m e n t (inr (p, h)) = rw p (over_value f s m e t h)

-- ---- with a sign
neg_value : (x : Float) (s : Bool) (a c : ℕ) → HasValue x s a c → HasValue (neg x) (not s) a c
unfolding neg
neg_value nan s a c h = absurd h
neg_value (inf t) s a c h = absurd h
neg_value (fin t m e) s a c h = (ap not h.0, h.1)

pub whole_f_value : (s : Bool) (n : ℕ) → HasValue (round binary64 false n 1) false n 1 → HasValue (whole_f s n) s n 1
unfolding of_int
whole_f_value false n h = h
whole_f_value true n h = neg_value (round binary64 false n 1) false n 1 h

pub whole_f_fits : (s : Bool) (n : ℕ) → T (fits binary64 (whole_f s n))
whole_f_fits false n = of_int-fits binary64 (pos n)
whole_f_fits true n = neg-fits binary64 (count n) (of_int-fits binary64 (pos n))

-- a double with no fraction is its whole part
pub whole_back : (s : Bool) (m : ℕ) (e : ℤ) → T (fits binary64 (fin s m e)) → m * up e % down e ≡ 0 → whole_f s (m * up e / down e) ≡ fin s m e
whole_back s m e t h =
    let n = m * up e / down e in
    whole_unique binary64 (whole_f s n) (fin s m e) s n (whole_f_fits s n) t (whole_f_value s n (part_value binary64 s m e t))
    (refl, mul-one (m * up e) ∙ omega (arith, div-add-mod' (m * up e) (down e)))
