-- Document 01 has a row's coefficients as whole numbers with a sign, and its sum as a sum; src/asynchro_fast.rs writes `.. - 21*c + ..`.
-- The bits are the same: a product with a negative coefficient, added, is the product taken away. Assumes nothing.
use mathlib.Core.Bool.{Bool, true, false, not, cond}
use mathlib.Core.Path.{◌≡◌, refl, sym, ap, ◌∙◌}
use Prim.Native.Nat.{ℕ, zero, suc, ◌+◌, ◌*◌, ◌^◌, ◌<◌}
use native.Mathlib.Nat.{not-suc-le-zero}
use lib.Dec.{ltb, eqb}
use lib.Ieee.{Float, nan, inf, fin, Format, binary64, prec, emax, low, unlike, up, down, odd, units, round, neg, add, sub, mul, of_int}
use Rattle.exact.specs.Doubles.{◌+f◌, ◌-f◌, ◌*f◌, count}
use Rattle.rows.specs.Rows.{term, minus}

neg_cond : (b : Bool) (x y : Float) → neg (cond b x y) ≡ cond b (neg x) (neg y)
unfolding neg
neg_cond true x y = refl
neg_cond false x y = refl

neg_odd : (d : ℕ) (s : Bool) (q k l : ℕ) → neg (odd d s q k l) ≡ odd d (not s) q k l
unfolding neg odd
neg_odd d s zero k l = refl
neg_odd d s (suc q) k l = refl

neg_units : (f : Format) (s : Bool) (q k : ℕ) → neg (units f s q k) ≡ units f (not s) q k
unfolding neg units
neg_units f s q k =
    let b = ltb (q * 2 ^ k) (2 ^ (low f + suc (emax f))) in
    neg_cond b (odd (suc (prec f)) s q k (low f)) (inf s) ∙ ap (λ (x : Float). cond b x (inf (not s))) (neg_odd (suc (prec f)) s q k (low f))

-- a rounding to nearest does not look at the sign
pub neg_round : (f : Format) (s : Bool) (n d : ℕ) → neg (round f s n d) ≡ round f (not s) n d
unfolding round
neg_round f s n d = neg_units f s _ _

unlike_not : (s t : Bool) → unlike (not s) t ≡ not (unlike s t)
unlike_not true true = refl
unlike_not true false = refl
unlike_not false true = refl
unlike_not false false = refl

-- (-c) * y = -(c * y), to the bit
pub neg_mul : (f : Format) (c y : Float) → mul f (neg c) y ≡ neg (mul f c y)
unfolding neg mul
neg_mul f nan y = refl
neg_mul f (inf s) nan = refl
neg_mul f (inf s) (inf t) = ap inf (unlike_not s t)
neg_mul f (inf s) (fin t n d) = ap (λ (b : Bool). cond (eqb n 0) nan (inf b)) (unlike_not s t) ∙ sym (neg_cond (eqb n 0) nan (inf (unlike s t)))
neg_mul f (fin s m e) nan = refl
neg_mul f (fin s m e) (inf t) = ap (λ (b : Bool). cond (eqb m 0) nan (inf b)) (unlike_not s t) ∙ sym (neg_cond (eqb m 0) nan (inf (unlike s t)))
neg_mul f (fin s m e) (fin t n d) =
    ap (λ (b : Bool). round f b (m * up e * (n * up d)) (down e * down d)) (unlike_not s t) ∙ sym (neg_round f (unlike s t) _ _)

-- s + (-c) * y = s - c * y, to the bit
pub plus_neg : (s c y : Float) → s +f neg c *f y ≡ s -f c *f y
unfolding sub
plus_neg s c y = ap (add binary64 s) (neg_mul binary64 c y)

-- ---- with the coefficients of the tables

-- -n as a double is the double n with the other sign
pub minus_is : (n : ℕ) → 0 < n → of_int binary64 (minus n) ≡ neg (count n)
unfolding of_int
minus_is zero h = absurd (not-suc-le-zero h)
minus_is (suc n) h = sym (neg_round binary64 false (suc n) 1)

-- the source's `.. - n*y`
pub difference : (n : ℕ) → 0 < n → (s y : Float) → s +f term (minus n) y ≡ s -f count n *f y
difference n h s y = ap (λ (c : Float). s +f c *f y) (minus_is n h) ∙ plus_neg s (count n) y

-- a first term: the source's `-n*y ..`, and the product with its sign changed
pub leading : (n : ℕ) → 0 < n → (y : Float) → (term (minus n) y ≡ neg (count n) *f y) × (term (minus n) y ≡ neg (count n *f y))
leading n h y =
    let e : term (minus n) y ≡ neg (count n) *f y = ap (λ (c : Float). c *f y) (minus_is n h) in
    (e, e ∙ neg_mul binary64 (count n) y)
