-- A rounded sum and difference, each as one rounding of the exact one, and how far it can be from that. Assumes nothing.
use mathlib.Core.Bool.{Bool, true, false, not, ◌&&◌, cond}
use mathlib.Core.Path.{◌≡◌, refl, sym, ap, ◌∙◌, subst}
use Prim.Native.Nat.{ℕ, ◌+◌, ◌-◌, ◌*◌, ◌^◌, ◌≤◌, ◌<◌}
use native.Mathlib.Nat.{lt_of_mul-lt-mul_right, le_of_mul-le-mul_left, le_of_mul-le-mul_right, mul-le-mul_right, mul-lt-mul_of_pos_right, mul_comm, mul-pos, mul-sub}
use native.Mathlib.Omega.{arith}
use lib.Dec.{T, ltb, ltb→lt, nltb→le}
use lib.Ieee.{Float, nan, inf, fin, Format, prec, emax, low, up, down, round, sum, add, sub, neg, fits}
use lib.Ieee.Exact.{round_exact}
use lib.Ieee.Fits.{down_pos, neg-fits}
use lib.Ieee.Scale.{finite, overflow, round_same}
use lib.IntN.{ℤ}
use lib.Pow.{pow-add, pow_pos}
use Rattle.exact.specs.Whole.{Whole, signed, ◌⊕◌, ◌⊖◌, ◌⊙◌, Same, Below, Within}
use Rattle.exact.specs.Exact.{mag, exact, Number}
use Rattle.exact.specs.Rounding.{slack, Rounds, RoundOf}
use Rattle.exact.proofs.Exact.{mag_exact, exact_of, finite_of}
use Rattle.exact.proofs.Rounding.{round_near, round_bound}

-- ---- what one rounding does
cancel : (c e a : ℕ) (s : Bool) (v : Whole) → 0 < c → Within (c * e) (c ⊙ v) (signed s (a * c)) → Within e v (signed s a)
cancel c e a false v C h =
    let p : c * v.0 ≤ c * (a + v.1 + e) = omega arith in
    let q : c * (a + v.1) ≤ c * (v.0 + e) = omega arith in
    omega (arith, le_of_mul-le-mul_left p C, le_of_mul-le-mul_left q C)
cancel c e a true v C h =
    let p : c * (v.0 + a) ≤ c * (v.1 + e) = omega arith in
    let q : c * v.1 ≤ c * (v.0 + a + e) = omega arith in
    omega (arith, le_of_mul-le-mul_left p C, le_of_mul-le-mul_left q C)

small : (s : Bool) (a b : ℕ) (v : Whole) → Same (signed s a) v → Below b v → a < b
small false a b v e h = omega arith
small true a b v e h = omega arith

moved : (e : ℕ) (u v w : Whole) → Within e u v → Same v w → Within e u w
moved e u v w h k = omega arith

pub near_of : (f : Format) (k : ℕ) (x : Float) (v : Whole) → RoundOf f x v → k ≤ emax f → Below (2 ^ (k + low f)) v → Rounds f k x v
near_of f k x v (s, a, e, w) l h =
    let y = round f s a (2 ^ low f) in
    let r = round_near f s a (2 ^ low f) k (pow_pos (low f)) (subst (λ (z : ℕ). a < z) (pow-add 2 k (low f)) (small s a (2 ^ (k + low f)) v w h)) l in
    subst (λ (z : Float). Rounds f k z v) (sym e)
    (r.0, moved (slack f k) (exact f y) (signed s a) v (cancel (2 ^ low f) (slack f k) a s (exact f y) (pow_pos (low f)) r.1) w)

-- the same where the result is known to be a number below 2 ^ k
spread : (s : Bool) (a b : ℕ) (v : Whole) → Same (signed s a) v → a < b → Below b v
spread false a b v e h = omega arith
spread true a b v e h = omega arith

pub bound_of : (f : Format) (j : ℕ) (x : Float) (v : Whole) → RoundOf f x v → T (finite x) → Below (2 ^ j) (exact f x) → Below (2 ^ j) v
bound_of f j x v (s, a, e, w) t h =
    spread s a (2 ^ j) v w (lt_of_mul-lt-mul_right (2 ^ low f)
    (round_bound f s a (2 ^ low f) j (pow_pos (low f)) (subst (λ (z : Float). T (finite z)) e t) (subst (λ (z : Float). Below (2 ^ j) (exact f z)) e h)))

-- nothing is lost where the exact value is q * 2 ^ j units with a q that the format holds, of either sign
alike : (s t : Bool) (a b : ℕ) (v : Whole) → Same (signed s a) v → Same (signed t b) v → a ≡ b
alike false false a b v h k = omega arith
alike false true a b v h k = omega arith
alike true false a b v h k = omega arith
alike true true a b v h k = omega arith

pub keeps_of : (f : Format) (x : Float) (v : Whole) (t : Bool) (q j : ℕ) → RoundOf f x v → Same (signed t (q * 2 ^ j)) v → q < 2 ^ prec f → q * 2 ^ j < overflow f
    → T (finite x) × Same (exact f x) v
keeps_of f x v t q j (s, a, e, w) h l o =
    let r = round_exact f s a (2 ^ low f) q j (pow_pos (low f)) l o (ap (λ (z : ℕ). z * 2 ^ low f) (alike s t a (q * 2 ^ j) v w h)) in
    subst (λ (z : Float). T (finite z) × Same (exact f z) v) (sym e)
    (finite_of (round f s a (2 ^ low f)) s a (2 ^ low f) r, subst (λ (u : Whole). Same u v) (sym (exact_of f (round f s a (2 ^ low f)) s a r)) w)

-- ---- `sum`, of two fractions A / c and B / c that are a and b units
taken : (A B L a b c : ℕ) → A * L ≡ a * c → B * L ≡ b * c → (B - A) * L ≡ (b - a) * c
taken A B L a b c p q =
    mul_comm (B - A) L ∙ mul-sub L B A
    ∙ ap (λ (x : ℕ). x - L * A) (mul_comm L B ∙ q ∙ mul_comm b c) ∙ ap (λ (x : ℕ). c * b - x) (mul_comm L A ∙ p ∙ mul_comm a c)
    ∙ sym (mul_comm (b - a) c ∙ mul-sub c b a)

pub under : (A B L a b c : ℕ) → 0 < L → A * L ≡ a * c → B * L ≡ b * c → A < B → a < b
under A B L a b c P p q h = lt_of_mul-lt-mul_right c (omega (arith, mul-lt-mul_of_pos_right h P))

pub upto : (A B L a b c : ℕ) → 0 < c → A * L ≡ a * c → B * L ≡ b * c → A ≤ B → a ≤ b
upto A B L a b c C p q h = le_of_mul-le-mul_right (omega (arith, mul-le-mul_right L h)) C

module _ (f : Format) (A B c a b : ℕ) (C : 0 < c) (p : A * 2 ^ low f ≡ a * c) (q : B * 2 ^ low f ≡ b * c) where
  one : (s : Bool) (n m : ℕ) (v : Whole) → n * 2 ^ low f ≡ m * c → Same (signed s m) v → RoundOf f (round f s n c) v
  one s n m v e w = (s, m, round_same f s n c m (2 ^ low f) C (pow_pos (low f)) e, w)

  sum_is : (s t : Bool) → RoundOf f (sum f s A t B c) (signed s a ⊕ signed t b)
  unfolding sum
  sum_is false false = one false (A + B) (a + b) (a + b, 0 + 0) (omega arith) (omega arith)
  sum_is true true = one true (A + B) (a + b) (0 + 0, a + b) (omega arith) (omega arith)
  sum_is false true = go (ltb A B) (ltb→lt A B) (nltb→le A B)
    where
      go : (o : Bool) → (T o → A < B) → (T (not o) → B ≤ A) → RoundOf f (cond o (round f true (B - A) c) (round f false (A - B) c)) (signed false a ⊕ signed true b)
      go true u v = one true (B - A) (b - a) (a + 0, 0 + b) (taken A B (2 ^ low f) a b c p q) (omega (arith, under A B (2 ^ low f) a b c (pow_pos (low f)) p q (u tt)))
      go false u v = one false (A - B) (a - b) (a + 0, 0 + b) (taken B A (2 ^ low f) b a c q p) (omega (arith, upto B A (2 ^ low f) b a c C q p (v tt)))
  sum_is true false = go (ltb A B) (ltb B A) (ltb→lt A B) (nltb→le A B) (nltb→le B A)
    where
      go : (o w : Bool) → (T o → A < B) → (T (not o) → B ≤ A) → (T (not w) → A ≤ B) → RoundOf f (cond o (round f false (B - A) c) (round f (true && w) (A - B) c)) (signed true a ⊕ signed false b)
      go true w u v z = one false (B - A) (b - a) (0 + b, a + 0) (taken A B (2 ^ low f) a b c p q) (omega (arith, under A B (2 ^ low f) a b c (pow_pos (low f)) p q (u tt)))
      go false true u v z = one true (A - B) (a - b) (0 + b, a + 0) (taken B A (2 ^ low f) b a c q p) (omega (arith, upto B A (2 ^ low f) b a c C q p (v tt)))
      go false false u v z =
          one false (A - B) (a - b) (0 + b, a + 0) (taken B A (2 ^ low f) b a c q p) (omega (arith, upto B A (2 ^ low f) b a c C q p (v tt), upto A B (2 ^ low f) a b c C p q (z tt)))

-- ---- `add` and `sub`
pub over_l : (f : Format) (s : Bool) (m : ℕ) (e d : ℤ) → T (fits f (fin s m e)) → m * up e * down d * 2 ^ low f ≡ mag f (fin s m e) * (down e * down d)
over_l f s m e d t = go (m * up e) (2 ^ low f) (mag f (fin s m e)) (down e) (down d) (mag_exact f (fin s m e) t)
  where
    go : (x L g c d : ℕ) → g * c ≡ x * L → x * d * L ≡ g * (c * d)
    go x L g c d e = omega (arith, ap (λ (z : ℕ). z * d) e)

pub over_r : (f : Format) (s : Bool) (m : ℕ) (e d : ℤ) → T (fits f (fin s m e)) → m * up e * down d * 2 ^ low f ≡ mag f (fin s m e) * (down d * down e)
over_r f s m e d t = over_l f s m e d t ∙ ap (λ (z : ℕ). mag f (fin s m e) * z) (mul_comm (down e) (down d))

pub add_is : (f : Format) (x y : Float) → Number f x → Number f y → RoundOf f (add f x y) (exact f x ⊕ exact f y)
unfolding add exact
add_is f nan y p q = absurd p.0
add_is f (inf s) y p q = absurd p.0
add_is f (fin s m e) nan p q = absurd q.0
add_is f (fin s m e) (inf t) p q = absurd q.0
add_is f (fin s m e) (fin t n d) p q =
    sum_is f (m * up e * down d) (n * up d * down e) (down e * down d) (mag f (fin s m e)) (mag f (fin t n d)) (mul-pos (down_pos e) (down_pos d))
    (over_l f s m e d p.1) (over_r f t n d e q.1) s t

pub exact_neg : (f : Format) (y : Float) → exact f (neg y) ≡ ((exact f y).1, (exact f y).0)
unfolding exact neg
exact_neg f nan = refl
exact_neg f (inf s) = refl
exact_neg f (fin true m e) = refl
exact_neg f (fin false m e) = refl

neg_finite : (y : Float) → T (finite y) → T (finite (neg y))
unfolding neg
neg_finite nan t = absurd t
neg_finite (inf s) t = absurd t
neg_finite (fin s m e) t = tt

pub sub_is : (f : Format) (x y : Float) → Number f x → Number f y → RoundOf f (sub f x y) (exact f x ⊖ exact f y)
unfolding sub
sub_is f x y p q = subst (λ (w : Whole). RoundOf f (add f x (neg y)) (exact f x ⊕ w)) (exact_neg f y) (add_is f x (neg y) p (neg_finite y q.0, neg-fits f y q.1))

-- the exact sum is below 2 ^ k
pub add_near : (f : Format) (k : ℕ) (x y : Float) → Number f x → Number f y → k ≤ emax f → Below (2 ^ (k + low f)) (exact f x ⊕ exact f y)
    → Rounds f k (add f x y) (exact f x ⊕ exact f y)
add_near f k x y p q l h = near_of f k (add f x y) (exact f x ⊕ exact f y) (add_is f x y p q) l h

pub sub_near : (f : Format) (k : ℕ) (x y : Float) → Number f x → Number f y → k ≤ emax f → Below (2 ^ (k + low f)) (exact f x ⊖ exact f y)
    → Rounds f k (sub f x y) (exact f x ⊖ exact f y)
sub_near f k x y p q l h = near_of f k (sub f x y) (exact f x ⊖ exact f y) (sub_is f x y p q) l h
