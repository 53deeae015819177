-- A rounded product and quotient, each as one rounding of the exact one, and how far it can be from that. An integer as a float. Assumes nothing.
use mathlib.Core.Bool.{Bool, true, false, cond}
use mathlib.Core.Path.{◌≡◌, sym, ap, ◌∙◌, subst}
use Prim.Native.Nat.{ℕ, ◌+◌, ◌*◌, ◌/◌, ◌^◌, ◌≤◌, ◌<◌}
use native.Mathlib.Nat.{eq_of_mul-eq-mul_right, pos_of_ne-zero, le_of_mul-le-mul_left, mul-one, mul_right_comm, mul-mul-mul_comm, mul-pos, zero-mul, zero-div, lt_irrefl}
use native.Mathlib.Omega.{arith}
use lib.Dec.{T, eqb, eqb→eq}
use lib.Ieee.{Float, nan, inf, fin, Format, prec, emax, low, up, down, unlike, round, fits, mul, div}
use lib.Ieee.Back.{round_whole}
use lib.Ieee.Exact.{HasValue}
use lib.Ieee.Fits.{up_pos, down_pos}
use lib.Ieee.Scale.{round_same}
use lib.IntN.{ℤ}
use lib.Pow.{pow_pos}
use Rattle.exact.specs.Whole.{Whole, signed, ◌⊙◌, ◌⊗◌, Below, Within}
use Rattle.exact.specs.Exact.{mag, exact, Number}
use Rattle.exact.specs.Rounding.{slack}
use Rattle.exact.proofs.Exact.{mag_exact, exact_of}
use Rattle.exact.proofs.Rounding.{round_near}

-- ---- the product, in units of 2 ^ -(2 * low)
times : (L M N a b c d : ℕ) → a * c ≡ M * L → b * d ≡ N * L → M * N * (L * L) ≡ a * b * (c * d)
times L M N a b c d p q = mul-mul-mul_comm M N L L ∙ ap (λ (x : ℕ). x * (N * L)) (sym p) ∙ ap (λ (x : ℕ). a * c * x) (sym q) ∙ mul-mul-mul_comm a c b d

product_sign : (s t : Bool) (a b e : ℕ) (v : Whole) → Within e v (signed (unlike s t) (a * b)) → Within e v (signed s a ⊗ signed t b)
product_sign false false a b e v h = omega arith
product_sign false true a b e v h = omega arith
product_sign true false a b e v h = omega arith
product_sign true true a b e v h = omega arith

product_below : (s t : Bool) (a b c : ℕ) → Below c (signed s a ⊗ signed t b) → a * b < c
product_below false false a b c h = omega arith
product_below false true a b c h = omega arith
product_below true false a b c h = omega arith
product_below true true a b c h = omega arith

once : (L e a : ℕ) (s : Bool) (v : Whole) → 0 < L → Within (L * L * e) (L * L ⊙ v) (signed s (a * L)) → Within (L * e) (L ⊙ v) (signed s a)
once L e a false v P h =
    let p : L * (L * v.0) ≤ L * (a + L * v.1 + L * e) = omega arith in
    let q : L * (a + L * v.1) ≤ L * (L * v.0 + L * e) = omega arith in
    omega (arith, le_of_mul-le-mul_left p P, le_of_mul-le-mul_left q P)
once L e a true v P h =
    let p : L * (L * v.0 + a) ≤ L * (L * v.1 + L * e) = omega arith in
    let q : L * (L * v.1) ≤ L * (L * v.0 + a + L * e) = omega arith in
    omega (arith, le_of_mul-le-mul_left p P, le_of_mul-le-mul_left q P)

-- the product is one rounding of the sizes' product
pub mul_is : (f : Format) (s t : Bool) (m n : ℕ) (e d : ℤ) → T (fits f (fin s m e)) → T (fits f (fin t n d))
    → mul f (fin s m e) (fin t n d) ≡ round f (unlike s t) (mag f (fin s m e) * mag f (fin t n d)) (2 ^ low f * 2 ^ low f)
unfolding mul
mul_is f s t m n e d p q =
    let P = pow_pos (low f) in
    round_same f (unlike s t) (m * up e * (n * up d)) (down e * down d) (mag f (fin s m e) * mag f (fin t n d)) (2 ^ low f * 2 ^ low f) (mul-pos (down_pos e) (down_pos d)) (mul-pos P P)
    (times (2 ^ low f) (m * up e) (n * up d) (mag f (fin s m e)) (mag f (fin t n d)) (down e) (down d) (mag_exact f (fin s m e) p) (mag_exact f (fin t n d) q))

-- the exact product is below 2 ^ k
pub mul_near : (f : Format) (k : ℕ) (x y : Float) → Number f x → Number f y → k ≤ emax f → Below (2 ^ k * (2 ^ low f * 2 ^ low f)) (exact f x ⊗ exact f y)
    → Number f (mul f x y) × Within (2 ^ low f * slack f k) (2 ^ low f ⊙ exact f (mul f x y)) (exact f x ⊗ exact f y)
unfolding exact
mul_near f k nan y p q l h = absurd p.0
mul_near f k (inf s) y p q l h = absurd p.0
mul_near f k (fin s m e) nan p q l h = absurd q.0
mul_near f k (fin s m e) (inf t) p q l h = absurd q.0
mul_near f k (fin s m e) (fin t n d) p q l h =
    let L = 2 ^ low f in
    let a = mag f (fin s m e) in
    let b = mag f (fin t n d) in
    let P = pow_pos (low f) in
    let r = round_near f (unlike s t) (a * b) (L * L) k (mul-pos P P) (product_below s t a b (2 ^ k * (L * L)) h) l in
    subst (λ (z : Float). Number f z × Within (L * slack f k) (L ⊙ exact f z) (signed s a ⊗ signed t b)) (sym (mul_is f s t m n e d p.1 q.1))
    (r.0, product_sign s t a b (L * slack f k) (L ⊙ exact f (round f (unlike s t) (a * b) (L * L))) (once L (slack f k) (a * b) (unlike s t) (exact f (round f (unlike s t) (a * b) (L * L))) P r.1))

-- ---- the quotient, multiplied by the divisor
parts : (L M N a b c d : ℕ) → 0 < L → a * c ≡ M * L → b * d ≡ N * L → M * d * b ≡ a * (N * c)
parts L M N a b c d P p q = eq_of_mul-eq-mul_right L P (M * d * b) (a * (N * c)) (omega (arith, ap (λ (z : ℕ). z * (b * d)) p, ap (λ (z : ℕ). a * c * z) q))

quotient_sign : (s t : Bool) (a b e L : ℕ) (v : Whole) → Within e (b ⊙ v) (signed (unlike s t) (a * L)) → Within e (signed t b ⊗ v) (L ⊙ signed s a)
quotient_sign false false a b e L v h = omega arith
quotient_sign false true a b e L v h = omega arith
quotient_sign true false a b e L v h = omega arith
quotient_sign true true a b e L v h = omega arith

no_zero : (n u L c : ℕ) → 0 < n * u * L / c → n ≡ 0 → ⊥
no_zero n u L c h e = lt_irrefl 0 (simp (e, zero-mul, zero-div) at h)

-- the exact quotient is below 2 ^ k, and the divisor is not zero
pub div_near : (f : Format) (k : ℕ) (x y : Float) → Number f x → Number f y → k ≤ emax f → 0 < mag f y → mag f x < 2 ^ k * mag f y
    → Number f (div f x y) × Within (mag f y * slack f k) (exact f y ⊗ exact f (div f x y)) (2 ^ low f ⊙ exact f x)
unfolding div exact
div_near f k nan y p q l h i = absurd p.0
div_near f k (inf s) y p q l h i = absurd p.0
div_near f k (fin s m e) nan p q l h i = absurd q.0
div_near f k (fin s m e) (inf t) p q l h i = absurd q.0
div_near f k (fin s m e) (fin t n d) p q l h i = go (eqb n 0) (eqb→eq n 0)
  where
    go : (o : Bool) → (T o → n ≡ 0)
        → let z = cond o (cond (eqb m 0) nan (inf (unlike s t))) (round f (unlike s t) (m * up e * down d) (n * up d * down e)) in
        Number f z × Within (mag f (fin t n d) * slack f k) (signed t (mag f (fin t n d)) ⊗ exact f z) (2 ^ low f ⊙ signed s (mag f (fin s m e)))
    go true u = absurd (no_zero n (up d) (2 ^ low f) (down d) h (u tt))
    go false u =
        let L = 2 ^ low f in
        let a = mag f (fin s m e) in
        let b = mag f (fin t n d) in
        let N = mul-pos (mul-pos (pos_of_ne-zero (no_zero n (up d) (2 ^ low f) (down d) h)) (up_pos d)) (down_pos e) in
        let is = round_same f (unlike s t) (m * up e * down d) (n * up d * down e) a b N h
        (parts L (m * up e) (n * up d) a b (down e) (down d) (pow_pos (low f)) (mag_exact f (fin s m e) p.1) (mag_exact f (fin t n d) q.1)) in
        let r = round_near f (unlike s t) a b k h i l in
        subst (λ (z : Float). Number f z × Within (b * slack f k) (signed t b ⊗ exact f z) (L ⊙ signed s a)) (sym is)
        (r.0, quotient_sign s t a b (b * slack f k) L (exact f (round f (unlike s t) a b)) r.1)

-- ---- a whole number, as a float; each up to 2 ^ prec is one
pub ones_exact : (f : Format) (x : Float) (s : Bool) (n : ℕ) → HasValue x s n 1 → exact f x ≡ signed s (n * 2 ^ low f)
ones_exact f nan s n h = absurd h
ones_exact f (inf t) s n h = absurd h
ones_exact f (fin t m e) s n h = exact_of f (fin t m e) s (n * 2 ^ low f) (h.0, ap (λ (z : ℕ). z * 2 ^ low f) (sym (mul-one (m * up e)) ∙ h.1) ∙ mul_right_comm n (down e) (2 ^ low f))

pub int_exact : (f : Format) (s : Bool) (n : ℕ) → n ≤ 2 ^ prec f → exact f (round f s n 1) ≡ signed s (n * 2 ^ low f)
int_exact f s n h = ones_exact f (round f s n 1) s n (round_whole f s n h)
