-- Whole numbers of at most 2 ^ 30 as doubles, and what keeps to their sides: a part of a difference, one rounding of a sum, the product with 2 ^ -30. By exact values. Assumes nothing.
use Rattle.std.proofs.Common.{◌≡◌, ℕ, ◌*◌, ◌^◌, ◌<◌, ◌≤◌, Bool, true, false, ℤ, pos, negsuc, nat_abs, sym, refl, ap, ◌∙◌, subst, le_trans, lt_of_le_of_lt, le_of_lt, mul-le-mul_right, mul_comm, le_antisymm, mul-lt-mul_of_pos_right, mul-pos, one-mul, mul-one, arith, lit<, lit≤, pow_pos, pow-add}
use lib.Ieee.{Float, nan, inf, fin, binary64, low, unlike, up, down, round, fits, mul, of_int, of_bits}
use lib.Ieee.Back.{round_whole}
use lib.Ieee.Exact.{HasValue, round_exact}
use lib.Ieee.Fits.{down_pos}
use lib.Ieee.Positive.{den}
use lib.Ieee.Scale.{round_same}
use Rattle.exact.specs.Doubles.{◌*f◌, zero_f}
use Rattle.exact.specs.Whole.{Whole, signed, ◌⊕◌, ◌⊖◌, ◌⊙◌, Same, AtMost, Below}
use Rattle.exact.specs.Exact.{mag, exact, Number}
use Rattle.exact.specs.Integers.{pair_of}
use Rattle.exact.specs.Rounding.{RoundOf}
use Rattle.exact.proofs.Exact.{exact_of}
use Rattle.exact.proofs.Products.{int_exact}
use Rattle.exact.proofs.Sums.{near_of}
use Rattle.exact.proofs.Sizes.{Sized, sized_units, sized_of, mul_sized, whole_sized}
use Rattle.exact.proofs.Monotone.{below_whole, above_whole, mul_order}
use Rattle.wave.specs.Cosine.{scale_f}

abbrev pub L : ℕ
L = 2 ^ low binary64

-- ---- a whole number as a double
abbrev pub sgn : ℤ → Bool
sgn (pos n) = false
sgn (negsuc n) = true

float_is : (z : ℤ) → of_int binary64 z ≡ round binary64 (sgn z) (nat_abs z) 1
unfolding of_int
float_is (pos n) = refl
float_is (negsuc n) = refl

pub units_same : (K : ℕ) (z : ℤ) → Same (K ⊙ pair_of z) (signed (sgn z) (nat_abs z * K))
units_same K (pos n) = omega arith
units_same K (negsuc n) = omega arith

module _ (z : ℤ) (h : nat_abs z ≤ 1073741824) where
  digits : nat_abs z ≤ 2 ^ 53
  digits = omega (arith, lit≤ {m = 1073741824} {n = 2 ^ 53} tt)

  pub float_sized : Sized binary64 1073741824 (of_int binary64 z)
  float_sized = record { number = rw (float_is z) w.number; size = rw (float_is z) (omega (arith, w.size, mul-le-mul_right (den (round binary64 (sgn z) (nat_abs z) 1)) h)) }
    where
      w : Sized binary64 (nat_abs z) (round binary64 (sgn z) (nat_abs z) 1)
      w = whole_sized binary64 (sgn z) (nat_abs z) digits

  pub float_exact : exact binary64 (of_int binary64 z) ≡ signed (sgn z) (nat_abs z * L)
  float_exact = ap (exact binary64) (float_is z) ∙ int_exact binary64 (sgn z) (nat_abs z) digits

-- ---- sizes and exact values
-- 2 ^ 32 is above every number here
wide : 2 ^ 32 ≤ 2 ^ 53
wide = lit≤ tt

pub sized_at : (n : ℕ) (x : Float) → Number binary64 x → AtMost (exact binary64 x) (n * L, 0) → AtMost (0, n * L) (exact binary64 x) → Sized binary64 n x
unfolding exact
sized_at n nan p h k = absurd p.0
sized_at n (inf s) p h k = absurd p.0
sized_at n (fin s m e) p h k = sized_of binary64 n (fin s m e) s (mag binary64 (fin s m e)) p refl (within s (mag binary64 (fin s m e)) (n * L) h k)
  where
    within : (s : Bool) (g b : ℕ) → AtMost (signed s g) (b, 0) → AtMost (0, b) (signed s g) → g ≤ b
    within false g b h k = omega arith
    within true g b h k = omega arith

pub sized_both : (n : ℕ) (x : Float) → Sized binary64 n x → AtMost (exact binary64 x) (n * L, 0) × AtMost (0, n * L) (exact binary64 x)
unfolding exact
sized_both n nan s = absurd s.number.0
sized_both n (inf t) s = absurd s.number.0
sized_both n (fin t m e) s = spread t (mag binary64 (fin t m e)) (n * L) (sized_units binary64 n (fin t m e) s)
  where
    spread : (s : Bool) (g b : ℕ) → g ≤ b → AtMost (signed s g) (b, 0) × AtMost (0, b) (signed s g)
    spread false g b h = omega arith
    spread true g b h = omega arith

zero_number : Number binary64 zero_f × (exact binary64 zero_f ≡ (0, 0))
unfolding of_bits exact fits
zero_number = ((tt, tt), refl)

mul_swap : (x y : Float) → Number binary64 x → Number binary64 y → x *f y ≡ y *f x
unfolding mul
mul_swap nan y p q = absurd p.0
mul_swap (inf s) y p q = absurd p.0
mul_swap (fin s m e) nan p q = absurd q.0
mul_swap (fin s m e) (inf t) p q = absurd q.0
mul_swap (fin s m e) (fin t n d) p q = rw (unlike_swap s t, mul_comm (m * up e) (n * up d), mul_comm (down e) (down d))
  where
    unlike_swap : (s t : Bool) → unlike s t ≡ unlike t s
    unlike_swap true true = refl
    unlike_swap true false = refl
    unlike_swap false true = refl
    unlike_swap false false = refl

-- over variables, since omega reads no number as long as L
between_zero : (n U : ℕ) → AtMost (0, 0) (n * U, 0) × AtMost (0, n * U) (0, 0)
between_zero n U = omega arith

no_size : (U : ℕ) (v : Whole) → AtMost v (0 * 1 * U, 0) → AtMost (0, 0 * 1 * U) v → Same v (0, 0)
no_size U v h k = omega arith

above_none : (u v : Whole) → Same u (0, 0) → AtMost u v → AtMost (0, 0) v
above_none u v e h = omega arith

below_none : (u v : Whole) → Same u (0, 0) → AtMost v u → AtMost v (0, 0)
below_none u v e h = omega arith

-- ---- the part x of a number d, x from 0 to 1: on the side of d, and no larger
module _ (x d : Float) (n : ℕ) (X : Sized binary64 1 x) (x0 : AtMost (0, 0) (exact binary64 x)) (D : Sized binary64 n d) (N : n < 2 ^ 32) where
  pub part_sized : Sized binary64 n (x *f d)
  part_sized = rw (one-mul n) at (mul_sized binary64 1 n x d X D (rw (one-mul n) (le_trans (le_of_lt N) wide)))

  zero_sized : (m : ℕ) → Sized binary64 m zero_f
  zero_sized m = sized_at m zero_f zero_number.0 (rw zero_number.1 (between_zero m L).0) (rw zero_number.1 (between_zero m L).1)

  none : Same (exact binary64 (zero_f *f x)) (0, 0)
  none =
      let w = sized_both (0 * 1) (zero_f *f x) (mul_sized binary64 0 1 zero_f x (zero_sized 0) X (lit≤ tt)) in
      no_size L (exact binary64 (zero_f *f x)) w.0 w.1

  turned : exact binary64 (x *f d) ≡ exact binary64 (d *f x)
  turned = ap (exact binary64) (mul_swap x d X.number D.number)

  pub part_up : AtMost (0, 0) (exact binary64 d) → AtMost (0, 0) (exact binary64 (x *f d)) × AtMost (exact binary64 (x *f d)) (n * L, 0)
  part_up h =
      let o = mul_order binary64 32 (lit≤ tt) wide zero_f d x n 1 (zero_sized n) D X (rw mul-one N) x0 (rw zero_number.1 h) in
      (rw turned (above_none (exact binary64 (zero_f *f x)) (exact binary64 (d *f x)) none o), (sized_both n (x *f d) part_sized).0)

  pub part_down : AtMost (exact binary64 d) (0, 0) → AtMost (0, n * L) (exact binary64 (x *f d)) × AtMost (exact binary64 (x *f d)) (0, 0)
  part_down h =
      let o = mul_order binary64 32 (lit≤ tt) wide d zero_f x n 1 D (zero_sized n) X (rw mul-one N) x0 (rw zero_number.1 h) in
      ((sized_both n (x *f d) part_sized).1, rw turned (below_none (exact binary64 (zero_f *f x)) (exact binary64 (d *f x)) none o))

-- ---- the line from the whole number a to the whole number b: u, w are their pairs, P, Q their exact values, U units make one
pub apart_up : (U n : ℕ) (u w P Q : Whole) → Same P (U ⊙ u) → Same Q (U ⊙ w) → Same w (u ⊕ (n, 0)) → Same (Q ⊖ P) (n * U, 0)
apart_up U n u w P Q p q e = omega (arith, ap (λ (z : ℕ). U * z) e)

pub apart_down : (U n : ℕ) (u w P Q : Whole) → Same P (U ⊙ u) → Same Q (U ⊙ w) → Same u (w ⊕ (n, 0)) → Same (Q ⊖ P) (0, n * U)
apart_down U n u w P Q p q e = omega (arith, ap (λ (z : ℕ). U * z) e)

-- a difference of n ones, either way, is below 2 ^ 32 of them
under : (U n : ℕ) (s : Bool) (v : Whole) → 0 < U → n < 4294967296 → Same v (signed s (n * U)) → Below (4294967296 * U) v
under U n false v P h e = omega (arith, mul-lt-mul_of_pos_right h P)
under U n true v P h e = omega (arith, mul-lt-mul_of_pos_right h P)

-- and so is what lies between two numbers of at most 2 ^ 30
under_both : (U : ℕ) (P Q v : Whole) → 0 < U → AtMost P v → AtMost v Q → AtMost (0, 1073741824 * U) P → AtMost Q (1073741824 * U, 0) → Below (4294967296 * U) v
under_both U P Q v some h k p q = omega arith

same_most : (v w : Whole) → Same v w → AtMost v w × AtMost w v
same_most v w e = omega arith

pub same_sym : (u v : Whole) → Same u v → Same v u
same_sym u v e = omega arith

-- one rounding of a whole number of ones is that number
pub whole_of : (d : Float) (v : Whole) (s : Bool) (n : ℕ) → RoundOf binary64 d v → n < 4294967296 → Same v (signed s (n * L)) → Sized binary64 n d × Same (exact binary64 d) (signed s (n * L))
whole_of d v s n r N e =
    let u = under L n s v (pow_pos (low binary64)) N e in
    let m = same_most v (signed s (n * L)) e in
    let hi = below_whole binary64 32 (lit≤ tt) wide d v r u s n N m.0 in
    let lo = above_whole binary64 32 (lit≤ tt) wide d v r u s n N m.1 in
    let p = (near_of binary64 32 d v r (lit≤ tt) (subst (λ (b : ℕ). Below b v) (sym (pow-add 2 32 (low binary64))) u)).0 in
    (ends s n L (exact binary64 d) hi lo (λ h k. sized_at n d p h k), both (exact binary64 d) (signed s (n * L)) hi lo)
  where
    both : (v w : Whole) → AtMost v w → AtMost w v → Same v w
    both v w h k = le_antisymm h k

    ends : {A : Type 0} (s : Bool) (n U : ℕ) (v : Whole) → AtMost v (signed s (n * U)) → AtMost (signed s (n * U)) v → (AtMost v (n * U, 0) → AtMost (0, n * U) v → A) → A
    ends false n U v h k law = law h (omega arith)
    ends true n U v h k law = law (omega arith) k

-- what lies between two whole numbers of at most 2 ^ 30 is rounded to what lies between them
pub between_of : (lo hi : ℤ) (z : Float) (v : Whole) → nat_abs lo ≤ 1073741824 → nat_abs hi ≤ 1073741824 → RoundOf binary64 z v → AtMost (exact binary64 (of_int binary64 lo)) v → AtMost v (exact binary64 (of_int binary64 hi))
    → Sized binary64 1073741824 z × AtMost (exact binary64 (of_int binary64 lo)) (exact binary64 z) × AtMost (exact binary64 z) (exact binary64 (of_int binary64 hi))
between_of lo hi z v hl hh r l h =
    let P = exact binary64 (of_int binary64 lo) in
    let Q = exact binary64 (of_int binary64 hi) in
    let p = sized_both 1073741824 (of_int binary64 lo) (float_sized lo hl) in
    let q = sized_both 1073741824 (of_int binary64 hi) (float_sized hi hh) in
    let u = under_both L P Q v (pow_pos (low binary64)) l h p.1 q.0 in
    let a = subst (λ (w : Whole). AtMost w (exact binary64 z)) (sym (float_exact lo hl))
    (above_whole binary64 32 (lit≤ tt) wide z v r u (sgn lo) (nat_abs lo) (few lo hl) (subst (λ (w : Whole). AtMost w v) (float_exact lo hl) l)) in
    let b = subst (AtMost (exact binary64 z)) (sym (float_exact hi hh))
    (below_whole binary64 32 (lit≤ tt) wide z v r u (sgn hi) (nat_abs hi) (few hi hh) (subst (AtMost v) (float_exact hi hh) h)) in
    let n = (near_of binary64 32 z v r (lit≤ tt) (subst (λ (b : ℕ). Below b v) (sym (pow-add 2 32 (low binary64))) u)).0 in
    (sized_at 1073741824 z n (through (exact binary64 z) Q (1073741824 * L, 0) b q.0) (through (0, 1073741824 * L) P (exact binary64 z) p.1 a), a, b)
  where
    few : (y : ℤ) → nat_abs y ≤ 1073741824 → nat_abs y < 4294967296
    few y h = omega arith

    through : (u v w : Whole) → AtMost u v → AtMost v w → AtMost u w
    through u v w h k = omega arith

-- ---- times 2 ^ -30
pub scale_f_is : scale_f ≡ fin false 1 (negsuc 29)
unfolding of_bits
scale_f_is = refl

scale_sized : Sized binary64 1 scale_f × AtMost (0, 0) (exact binary64 scale_f)
unfolding of_bits exact fits
scale_sized = (record { number = (tt, tt); size = lit≤ tt }, lit≤ tt)

scaled_is : (y : Float) (s : Bool) (n : ℕ) → n ≤ 1073741824 → HasValue y s n 1 → exact binary64 (y *f scale_f) ≡ signed s (n * 2 ^ 1044)
unfolding mul of_bits
scaled_is nan s n h v = absurd v
scaled_is (inf t) s n h v = absurd v
scaled_is (fin t m e) s n h v =
    let same : round binary64 (unlike t false) (m * up e * 1) (down e * 2 ^ 30) ≡ round binary64 s (n * 2 ^ 1044) (2 ^ low binary64) =
    ap (λ (b : Bool). round binary64 b (m * up e * 1) (down e * 2 ^ 30)) (plain t ∙ v.0)
    ∙ round_same binary64 s (m * up e * 1) (down e * 2 ^ 30) (n * 2 ^ 1044) (2 ^ low binary64) (mul-pos (down_pos e) (lit< tt)) (pow_pos (low binary64))
    (ap (λ (z : ℕ). z * 2 ^ low binary64) v.1 ∙ moved n (down e) (2 ^ 1044) (2 ^ 30) (2 ^ low binary64) refl) in
    ap (exact binary64) same
    ∙ exact_of binary64 (round binary64 s (n * 2 ^ 1044) (2 ^ low binary64)) s (n * 2 ^ 1044)
    (round_exact binary64 s (n * 2 ^ 1044) (2 ^ low binary64) n 1044 (pow_pos (low binary64)) (lt_of_le_of_lt h (lit< tt)) (lt_of_le_of_lt (mul-le-mul_right (2 ^ 1044) h) (lit< tt)) refl)
  where
    plain : (t : Bool) → unlike t false ≡ t
    plain true = refl
    plain false = refl

    moved : (n d C E U : ℕ) → U ≡ C * E → n * d * U ≡ n * C * (d * E)
    moved n d C E U e = omega (arith, ap (λ (z : ℕ). n * d * z) e)

-- an entry times 2 ^ -30 is exact
pub step_exact : (z : ℤ) → nat_abs z ≤ 1073741824 → Same (exact binary64 (of_int binary64 z *f scale_f)) (2 ^ 1044 ⊙ pair_of z)
step_exact z h =
    subst (λ (v : Whole). Same v (2 ^ 1044 ⊙ pair_of z)) (sym (ap (λ (y : Float). exact binary64 (y *f scale_f)) (float_is z) ∙ scaled_is (round binary64 (sgn z) (nat_abs z) 1) (sgn z) (nat_abs z) h (round_whole binary64 (sgn z) (nat_abs z) (digits z h))))
    (same_sym (2 ^ 1044 ⊙ pair_of z) (signed (sgn z) (nat_abs z * 2 ^ 1044)) (units_same (2 ^ 1044) z))

-- the order stays
pub scaled_between : (lo hi : ℤ) (z : Float) → nat_abs lo ≤ 1073741824 → nat_abs hi ≤ 1073741824 → Sized binary64 1073741824 z → AtMost (exact binary64 (of_int binary64 lo)) (exact binary64 z) → AtMost (exact binary64 z) (exact binary64 (of_int binary64 hi))
    → AtMost (2 ^ 1044 ⊙ pair_of lo) (exact binary64 (z *f scale_f)) × AtMost (exact binary64 (z *f scale_f)) (2 ^ 1044 ⊙ pair_of hi)
scaled_between lo hi z hl hh p l h =
    let a = mul_order binary64 32 (lit≤ tt) wide (of_int binary64 lo) z scale_f 1073741824 1 (float_sized lo hl) p scale_sized.0 (lit< tt) scale_sized.1 l in
    let b = mul_order binary64 32 (lit≤ tt) wide z (of_int binary64 hi) scale_f 1073741824 1 p (float_sized hi hh) scale_sized.0 (lit< tt) scale_sized.1 h in
    (from (2 ^ 1044 ⊙ pair_of lo) (exact binary64 (of_int binary64 lo *f scale_f)) (exact binary64 (z *f scale_f)) (step_exact lo hl) a, to (exact binary64 (z *f scale_f)) (exact binary64 (of_int binary64 hi *f scale_f)) (2 ^ 1044 ⊙ pair_of hi) (step_exact hi hh) b)
  where
    from : (u v w : Whole) → Same v u → AtMost v w → AtMost u w
    from u v w e h = omega arith

    to : (u v w : Whole) → Same v w → AtMost u v → AtMost u w
    to u v w e h = omega arith
