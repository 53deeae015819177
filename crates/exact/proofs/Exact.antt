-- Laws of the exact value: nothing is lost by its division, and what is known as a fraction over 2 ^ low has that value. Assumes nothing.
use mathlib.Core.Bool.{Bool, ◌&&◌}
use mathlib.Core.Path.{◌≡◌, sym, ap, ◌∙◌}
use Prim.Native.Nat.{ℕ, zero, suc, ◌-◌, ◌*◌, ◌/◌, ◌%◌, ◌^◌, ◌≤◌}
use native.Mathlib.Nat.{le_of_suc-le-suc, lt_of_not-le, not-le_of_lt, mul-one, mul_assoc, zero-mul, zero-div, div-one, mul-div_cancel}
use lib.Dec.{T, leb, ltb, eqb, leb→le}
use lib.Ieee.{Float, nan, inf, fin, Format, prec, emax, low, up, down, fits}
use lib.Ieee.Digits.{back}
use lib.Ieee.Exact.{HasValue}
use lib.Ieee.Fits.{down_pos, and_l, and_r}
use lib.Ieee.Positive.{num, den}
use lib.Ieee.Scale.{finite}
use lib.IntN.{ℤ, pos, negsuc}
use lib.Pow.{pow-add, pow_pos, pow-lt}
use Rattle.exact.specs.Whole.{signed}
use Rattle.exact.specs.Exact.{mag, exact}

-- ---- nothing is lost by the division
exponent_le : (i j : ℕ) → 2 ^ i ≤ 2 ^ j → i ≤ j
exponent_le i j h = le_of_suc-le-suc (lt_of_not-le (λ (g : suc j ≤ i). not-le_of_lt (pow-lt g) h))

divides : (n k l : ℕ) → k ≤ l → n * 2 ^ l / 2 ^ k * 2 ^ k ≡ n * 2 ^ l
divides n k l h =
    let e : n * 2 ^ l ≡ n * 2 ^ (l - k) * 2 ^ k = ap (λ (x : ℕ). n * 2 ^ x) (sym (back l k h)) ∙ ap (λ (x : ℕ). n * x) (pow-add 2 (l - k) k) ∙ sym (mul_assoc n (2 ^ (l - k)) (2 ^ k)) in
    ap (λ (x : ℕ). x / 2 ^ k * 2 ^ k) e ∙ ap (λ (x : ℕ). x * 2 ^ k) (mul-div_cancel (n * 2 ^ (l - k)) (pow_pos k)) ∙ sym e

down_le : (f : Format) (s : Bool) (m : ℕ) (e : ℤ) → T (fits f (fin s (suc m) e)) → down e ≤ 2 ^ low f
unfolding fits
down_le f s m e t =
    leb→le (down e) (2 ^ low f) (and_r (eqb (suc m % 2) 1 && ltb (suc m) (2 ^ prec f)) (leb (down e) (2 ^ low f))
    (and_l (eqb (suc m % 2) 1 && ltb (suc m) (2 ^ prec f) && leb (down e) (2 ^ low f)) (ltb (suc m * up e) (2 ^ suc (emax f) * down e)) t))

-- of a fraction that fits, the exponent is one of the format's
pub places_le : (f : Format) (s : Bool) (m k : ℕ) → T (fits f (fin s (suc m) (negsuc k))) → suc k ≤ low f
places_le f s m k t = exponent_le (suc k) (low f) (down_le f s m (negsuc k) t)

pub mag_exact : (f : Format) (x : Float) → T (fits f x) → mag f x * den x ≡ num x * 2 ^ low f
mag_exact f nan t = mul-one _ ∙ div-one _
mag_exact f (inf s) t = mul-one _ ∙ div-one _
mag_exact f (fin s zero e) t = simp (zero-mul, zero-div)
mag_exact f (fin s (suc m) (pos k)) t = mul-one _ ∙ div-one _
mag_exact f (fin s (suc m) (negsuc k)) t = divides (suc m * 1) (suc k) (low f) (places_le f s m k t)

-- ---- a value that is known as a fraction over 2 ^ low
pub exact_of : (f : Format) (x : Float) (s : Bool) (g : ℕ) → HasValue x s g (2 ^ low f) → exact f x ≡ signed s g
unfolding exact
exact_of f nan s g h = absurd h
exact_of f (inf t) s g h = absurd h
exact_of f (fin t m e) s g h = λ i. signed (h.0 i) ((ap (λ (x : ℕ). x / down e) h.1 ∙ mul-div_cancel g (down_pos e)) i)

pub finite_of : (x : Float) (s : Bool) (a c : ℕ) → HasValue x s a c → T (finite x)
finite_of nan s a c h = absurd h
finite_of (inf t) s a c h = absurd h
finite_of (fin t m e) s a c h = tt
