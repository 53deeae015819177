-- What a rounded sum and a rounded product keep: the side of a whole number that the exact sum lies on, the sign of the product, and the order under a factor from 0 up. Assumes nothing.
use mathlib.Core.Bool.{Bool, true, false}
use mathlib.Core.Path.{◌≡◌, sym, subst}
use Prim.Native.Nat.{ℕ, ◌*◌, ◌^◌, ◌≤◌, ◌<◌}
use native.Mathlib.Nat.{le_of_lt, lt_of_le_of_lt, lt_of_lt_of_le, mul-le-mul, mul-le-mul_left, mul-le-mul_right, mul-lt-mul_of_pos_right, mul-mul-mul_comm, mul-one, mul-pos, mul-zero, zero-lt-suc, zero-mul}
use native.Mathlib.Omega.{arith}
use lib.Ieee.{Float, nan, inf, fin, Format, prec, emax, low, unlike, round, mul}
use lib.Pow.{pow_pos}
use Rattle.exact.specs.Whole.{Whole, signed, ◌⊙◌, Same, AtMost, Below}
use Rattle.exact.specs.Exact.{mag, exact}
use Rattle.exact.specs.Rounding.{RoundOf}
use Rattle.exact.proofs.Products.{mul_is, int_exact}
use Rattle.exact.proofs.Sizes.{Sized, sized_units, round_order}

module _ (f : Format) where
  -- ---- the side of a whole number
  module _ (k : ℕ) (K : k ≤ emax f) (W : 2 ^ k ≤ 2 ^ prec f) where
    beside : (z : Float) (v : Whole) (r : RoundOf f z v) → Below (2 ^ k * 2 ^ low f) v → r.1 < 2 ^ k * 2 ^ low f
    beside z v (s, a, e, w) h = small s a (2 ^ k * 2 ^ low f) v w h
      where
        small : (s : Bool) (a b : ℕ) (v : Whole) → Same (signed s a) v → Below b v → a < b
        small false a b v e h = omega arith
        small true a b v e h = omega arith

    pub below_whole : (z : Float) (v : Whole) → RoundOf f z v → Below (2 ^ k * 2 ^ low f) v → (t : Bool) (n : ℕ) → n < 2 ^ k → AtMost v (signed t (n * 2 ^ low f)) → AtMost (exact f z) (signed t (n * 2 ^ low f))
    below_whole z v r h t n N l =
        subst (AtMost (exact f z)) (int_exact f t n (le_of_lt (lt_of_lt_of_le N W)))
        (subst (λ (y : Float). AtMost (exact f y) (exact f (round f t n 1))) (sym r.2)
        (round_order f k K r.1 (2 ^ low f) n 1 (pow_pos (low f)) (zero-lt-suc 0) (beside z v r h) (rw mul-one N) r.0 t (up_to r.0 t r.1 n (2 ^ low f) v r.3 l)))
      where
        up_to : (s t : Bool) (a n L : ℕ) (v : Whole) → Same (signed s a) v → AtMost v (signed t (n * L)) → AtMost (1 ⊙ signed s a) (L ⊙ signed t n)
        up_to false false a n L v e l = omega arith
        up_to false true a n L v e l = omega arith
        up_to true false a n L v e l = omega arith
        up_to true true a n L v e l = omega arith

    pub above_whole : (z : Float) (v : Whole) → RoundOf f z v → Below (2 ^ k * 2 ^ low f) v → (t : Bool) (n : ℕ) → n < 2 ^ k → AtMost (signed t (n * 2 ^ low f)) v → AtMost (signed t (n * 2 ^ low f)) (exact f z)
    above_whole z v r h t n N l =
        subst (λ (u : Whole). AtMost u (exact f z)) (int_exact f t n (le_of_lt (lt_of_lt_of_le N W)))
        (subst (λ (y : Float). AtMost (exact f (round f t n 1)) (exact f y)) (sym r.2)
        (round_order f k K n 1 r.1 (2 ^ low f) (zero-lt-suc 0) (pow_pos (low f)) (rw mul-one N) (beside z v r h) t r.0 (down_to r.0 t r.1 n (2 ^ low f) v r.3 l)))
      where
        down_to : (s t : Bool) (a n L : ℕ) (v : Whole) → Same (signed s a) v → AtMost (signed t (n * L)) v → AtMost (L ⊙ signed t n) (1 ⊙ signed s a)
        down_to false false a n L v e l = omega arith
        down_to false true a n L v e l = omega arith
        down_to true false a n L v e l = omega arith
        down_to true true a n L v e l = omega arith

    -- ---- a product, by a factor c that is not below 0: the order stays
    few : (X C m n L : ℕ) → X ≤ m * L → C ≤ n * L → m * n < 2 ^ k → 0 < L → X * C < 2 ^ k * (L * L)
    few X C m n L x c l P = lt_of_le_of_lt (subst (λ (y : ℕ). X * C ≤ y) (mul-mul-mul_comm m L n L) (mul-le-mul x c)) (mul-lt-mul_of_pos_right l (mul-pos P P))

    in_order : (s t r : Bool) (X Y C L : ℕ) → AtMost (0, 0) (signed r C) → AtMost (signed s X) (signed t Y) → AtMost (L ⊙ signed (unlike s r) (X * C)) (L ⊙ signed (unlike t r) (Y * C))
    in_order s t true X Y C L c h =
        let z : C ≡ 0 = omega arith in
        rw (z, mul-zero X, mul-zero Y) (nothing (unlike s true) (unlike t true) L)
      where
        nothing : (a b : Bool) (L : ℕ) → AtMost (L ⊙ signed a 0) (L ⊙ signed b 0)
        nothing false false L = omega arith
        nothing false true L = omega arith
        nothing true false L = omega arith
        nothing true true L = omega arith
    in_order false false false X Y C L c h = let m : X ≤ Y = omega arith in omega (arith, mul-le-mul_left L (mul-le-mul_right C m))
    in_order true false false X Y C L c h = omega arith
    in_order true true false X Y C L c h = let m : Y ≤ X = omega arith in omega (arith, mul-le-mul_left L (mul-le-mul_right C m))
    in_order false true false X Y C L c h =
        let u : X ≡ 0 = omega arith in
        let v : Y ≡ 0 = omega arith in
        rw (u, v, zero-mul C) (omega arith)

    pub mul_order : (x y c : Float) (m n : ℕ) → Sized f m x → Sized f m y → Sized f n c → m * n < 2 ^ k → AtMost (0, 0) (exact f c) → AtMost (exact f x) (exact f y) → AtMost (exact f (mul f x c)) (exact f (mul f y c))
    unfolding exact
    mul_order nan y c m n p q r l z h = absurd p.number.0
    mul_order (inf s) y c m n p q r l z h = absurd p.number.0
    mul_order (fin s a d) nan c m n p q r l z h = absurd q.number.0
    mul_order (fin s a d) (inf t) c m n p q r l z h = absurd q.number.0
    mul_order (fin s a d) (fin t b e) nan m n p q r l z h = absurd r.number.0
    mul_order (fin s a d) (fin t b e) (inf u) m n p q r l z h = absurd r.number.0
    mul_order (fin s a d) (fin t b e) (fin u c g) m n p q r l z h =
        let L = 2 ^ low f in
        let P = pow_pos (low f) in
        let X = mag f (fin s a d) in
        let Y = mag f (fin t b e) in
        let C = mag f (fin u c g) in
        let w = sized_units f n (fin u c g) r in
        rw (mul_is f s u a c d g p.number.1 r.number.1, mul_is f t u b c e g q.number.1 r.number.1)
        (round_order f k K (X * C) (L * L) (Y * C) (L * L) (mul-pos P P) (mul-pos P P) (few X C m n L (sized_units f m (fin s a d) p) w l P) (few Y C m n L (sized_units f m (fin t b e) q) w l P) (unlike s u) (unlike t u) (in_order s t u X Y C (L * L) z h))
