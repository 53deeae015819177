-- Comparing two numbers is comparing their exact values. Assumes nothing.
use mathlib.Core.Bool.{Bool, true, false, ◌||◌}
use mathlib.Core.Logic.{◌↔◌, inl, inr}
use mathlib.Core.Path.{◌≡◌, sym}
use Prim.Native.Nat.{ℕ, ◌+◌, ◌*◌, ◌^◌, ◌<◌}
use native.Mathlib.Nat.{le_antisymm, le_of_eq, mul-pos, eq-or-lt_of_le}
use native.Mathlib.Omega.{arith}
use lib.Dec.{T, eqb, ltb→lt, lt→ltb, eqb→eq}
use lib.Ieee.{Float, nan, inf, fin, Format, low, up, down, below, level, lt, eq, le}
use lib.Ieee.Fits.{down_pos, and_i, and_l, and_r, eq→eqb}
use lib.IntN.{ℤ}
use lib.Pow.{pow_pos}
use Rattle.exact.specs.Whole.{signed, Same, Less, AtMost}
use Rattle.exact.specs.Exact.{mag, exact, Number}
use Rattle.exact.proofs.Sums.{under, upto, over_l, over_r}

-- A / c and B / c are a and b in units of 1 / L
module _ (A B L a b c : ℕ) (P : 0 < L) (C : 0 < c) (p : A * L ≡ a * c) (q : B * L ≡ b * c) where
  below→ : (s t : Bool) → T (below s A t B) → Less (signed s a) (signed t b)
  below→ false false h = omega (arith, under A B L a b c P p q (ltb→lt A B h))
  below→ false true h = absurd h
  below→ true false h = omega (arith, under 0 (A + B) L 0 (a + b) c P (omega arith) (omega arith) (ltb→lt 0 (A + B) h))
  below→ true true h = omega (arith, under B A L b a c P q p (ltb→lt B A h))

  →below : (s t : Bool) → Less (signed s a) (signed t b) → T (below s A t B)
  →below false false h = lt→ltb A B (under a b c A B L C (sym p) (sym q) (omega arith))
  →below false true h = absurd (omega arith)
  →below true false h = lt→ltb 0 (A + B) (under 0 (a + b) c 0 (A + B) L C (omega arith) (omega arith) (omega arith))
  →below true true h = lt→ltb B A (under b a c B A L C (sym q) (sym p) (omega arith))

  equal : A ≡ B → a ≡ b
  equal e = le_antisymm (upto A B L a b c C p q (le_of_eq e)) (upto B A L b a c C q p (le_of_eq (sym e)))

  zero→ : A ≡ 0 → a ≡ 0
  zero→ e = le_antisymm (upto A 0 L a 0 c C p (omega arith) (le_of_eq e)) (omega arith)

  →zero : a ≡ 0 → A ≡ 0
  →zero e = le_antisymm (upto a 0 c A 0 L P (sym p) (omega arith) (le_of_eq e)) (omega arith)

  →equal : a ≡ b → A ≡ B
  →equal e = le_antisymm (upto a b c A B L P (sym p) (sym q) (le_of_eq e)) (upto b a c B A L P (sym q) (sym p) (le_of_eq (sym e)))

  level→ : (s t : Bool) → T (level s A t B) → Same (signed s a) (signed t b)
  level→ false false h = omega (arith, equal (eqb→eq A B (and_l (eqb A B) true h)))
  level→ true true h = omega (arith, equal (eqb→eq A B (and_l (eqb A B) true h)))
  level→ false true h = omega (arith, equal (eqb→eq A B (and_l (eqb A B) (eqb A 0) h)), zero→ (eqb→eq A 0 (and_r (eqb A B) (eqb A 0) h)))
  level→ true false h = omega (arith, equal (eqb→eq A B (and_l (eqb A B) (eqb A 0) h)), zero→ (eqb→eq A 0 (and_r (eqb A B) (eqb A 0) h)))

  →level : (s t : Bool) → Same (signed s a) (signed t b) → T (level s A t B)
  →level false false h = and_i (eqb A B) true (eq→eqb (→equal (omega arith))) tt
  →level true true h = and_i (eqb A B) true (eq→eqb (→equal (omega arith))) tt
  →level false true h = and_i (eqb A B) (eqb A 0) (eq→eqb (→equal (omega arith))) (eq→eqb (→zero (omega arith)))
  →level true false h = and_i (eqb A B) (eqb A 0) (eq→eqb (→equal (omega arith))) (eq→eqb (→zero (omega arith)))

-- two finite numbers as A / c and B / c, which are their sizes in units of 1 / L: what holds of all such holds of them
module _ (f : Format) (s t : Bool) (m n : ℕ) (e d : ℤ) (p : Number f (fin s m e)) (q : Number f (fin t n d)) where
  in-units : (R : ℕ → ℕ → ℕ → ℕ → Type 0) → ((A B L a b c : ℕ) → 0 < L → 0 < c → A * L ≡ a * c → B * L ≡ b * c → R A B a b)
      → R (m * up e * down d) (n * up d * down e) (mag f (fin s m e)) (mag f (fin t n d))
  in-units R law =
      law _ _ (2 ^ low f) _ _ (down e * down d) (pow_pos (low f)) (mul-pos (down_pos e) (down_pos d)) (over_l f s m e d p.1) (over_r f t n d e q.1)

pub lt_exact : (f : Format) (x y : Float) → Number f x → Number f y → T (lt x y) ↔ Less (exact f x) (exact f y)
unfolding lt exact
lt_exact f nan y p q = absurd p.0
lt_exact f (inf s) y p q = absurd p.0
lt_exact f (fin s m e) nan p q = absurd q.0
lt_exact f (fin s m e) (inf t) p q = absurd q.0
lt_exact f (fin s m e) (fin t n d) p q =
    in-units f s t m n e d p q (λ A B a b. T (below s A t B) ↔ Less (signed s a) (signed t b)) (λ A B L a b c P C u v. (below→ A B L a b c P C u v s t, →below A B L a b c P C u v s t))

pub eq_exact : (f : Format) (x y : Float) → Number f x → Number f y → T (eq x y) ↔ Same (exact f x) (exact f y)
unfolding eq exact
eq_exact f nan y p q = absurd p.0
eq_exact f (inf s) y p q = absurd p.0
eq_exact f (fin s m e) nan p q = absurd q.0
eq_exact f (fin s m e) (inf t) p q = absurd q.0
eq_exact f (fin s m e) (fin t n d) p q =
    in-units f s t m n e d p q (λ A B a b. T (level s A t B) ↔ Same (signed s a) (signed t b)) (λ A B L a b c P C u v. (level→ A B L a b c P C u v s t, →level A B L a b c P C u v s t))

or_elim : {P : Type 0} (a b : Bool) → (T a → P) → (T b → P) → T (a || b) → P
or_elim true b f g t = f tt
or_elim false b f g t = g t

or_l : (a b : Bool) → T a → T (a || b)
or_l true b t = tt
or_l false b t = absurd t

or_r : (a b : Bool) → T b → T (a || b)
or_r true b t = tt
or_r false b t = t

pub le_exact : (f : Format) (x y : Float) → Number f x → Number f y → T (le x y) ↔ AtMost (exact f x) (exact f y)
unfolding le
le_exact f x y p q = (
  or_elim (lt x y) (eq x y) (λ h. omega (arith, (lt_exact f x y p q).0 h)) (λ h. omega (arith, (eq_exact f x y p q).0 h)),
  λ h. elim (eq-or-lt_of_le h) [ inl e ↦ or_r (lt x y) (eq x y) ((eq_exact f x y p q).1 e) | inr l ↦ or_l (lt x y) (eq x y) ((lt_exact f x y p q).1 l) ],
)
