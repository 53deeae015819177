-- Rounding keeps the order of fractions, whatever their signs; and how large a result can be, in ones. Assumes nothing.
use mathlib.Core.Bool.{Bool, true, false, cond}
use mathlib.Core.Path.{◌≡◌, refl, sym, ap, ◌∙◌, subst}
use Prim.Native.Nat.{ℕ, zero, suc, ◌+◌, ◌*◌, ◌^◌, ◌≤◌, ◌<◌}
use native.Mathlib.Nat.{le_trans, lt_of_le_of_lt, lt_of_lt_of_le, le_of_mul-le-mul_right, mul_assoc, mul-le-mul, mul-le-mul_right, mul-lt-mul_of_pos_right, mul-mul-mul_comm, mul-one, mul-pos, mul_right_comm, zero-lt-suc}
use native.Mathlib.Omega.{arith}
use lib.Dec.{T, eqb, eqb→eq, lit≤}
use lib.Ieee.{Float, nan, inf, fin, Format, binary32, binary64, prec, emax, low, up, down, unlike, round, mul, div, sub}
use lib.Ieee.Exact.{HasValue}
use lib.Ieee.Fits.{down_pos}
use lib.Ieee.Order.{round_mono}
use lib.Ieee.Positive.{num, den}
use lib.Ieee.Scale.{grid}
use lib.Pow.{pow-add, pow-lt, pow_pos}
use Rattle.exact.specs.Whole.{Whole, signed, ◌⊖◌, ◌⊙◌, Same, AtMost, Below}
use Rattle.exact.specs.Exact.{mag, exact, Number}
use Rattle.exact.proofs.Exact.{mag_exact}
use Rattle.exact.proofs.Order.{le_exact}
use Rattle.exact.proofs.Products.{int_exact}
use Rattle.exact.proofs.Rounding.{round_near, round_finite}
use Rattle.exact.proofs.Sums.{sub_is}

-- ---- the order of two fractions a / c and b / d, both below 2 ^ k
module _ (f : Format) (k : ℕ) (K : k ≤ emax f) where
  number_of : (s : Bool) (a c : ℕ) → 0 < c → a < 2 ^ k * c → Number f (round f s a c)
  number_of s a c C h = (round_near f s a c k C h K).0

  grid_mono : (a c b d : ℕ) → 0 < c → 0 < d → a < 2 ^ k * c → b < 2 ^ k * d → a * d ≤ b * c → grid f a c ≤ grid f b d
  grid_mono a c b d C D h i l =
      let p = number_of false a c C h in
      let q = number_of false b d D i in
      let o = (le_exact f (round f false a c) (round f false b d) p q).0 (round_mono f a c b d C D l) in
      let u : AtMost (signed false (grid f a c)) (signed false (grid f b d)) = subst (λ (v : Whole). AtMost v (signed false (grid f b d))) (round_finite f false a c p.0) (subst (AtMost (exact f (round f false a c))) (round_finite f false b d q.0) o) in
      omega arith

  grid_zero : (c : ℕ) → 0 < c → grid f 0 c ≡ 0
  grid_zero c C =
      let w : 0 < 2 ^ k * c = mul-pos (pow_pos k) C in
      let v : 0 < 2 ^ k * 1 = mul-pos (pow_pos k) (zero-lt-suc 0) in
      let e : signed false (grid f 0 1) ≡ (0 * 2 ^ low f, 0) = sym (round_finite f false 0 1 (number_of false 0 1 (zero-lt-suc 0) v).0) ∙ int_exact f false 0 (omega arith) in
      omega (arith, grid_mono 0 c 0 1 C (zero-lt-suc 0) w v (omega arith), ap (λ (v : Whole). v.0) e)

  module _ (a c b d : ℕ) (C : 0 < c) (D : 0 < d) (h : a < 2 ^ k * c) (i : b < 2 ^ k * d) where
    none : (x e : ℕ) → 0 < e → e * x ≤ 0 → x ≡ 0
    none zero e E l = refl
    none (suc x) e E l = absurd (omega (arith, mul-pos E (zero-lt-suc x)))

    in_order : (s t : Bool) → AtMost (d ⊙ signed s a) (c ⊙ signed t b) → AtMost (signed s (grid f a c)) (signed t (grid f b d))
    in_order false false l = let m : a * d ≤ b * c = omega arith in omega (arith, grid_mono a c b d C D h i m)
    in_order true true l = let m : b * c ≤ a * d = omega arith in omega (arith, grid_mono b d a c D C i h m)
    in_order true false l = omega arith
    in_order false true l =
        let A : a ≡ 0 = none a d D (omega arith) in
        let B : b ≡ 0 = none b c C (omega arith) in
        let z : grid f a c ≡ 0 = ap (λ (x : ℕ). grid f x c) A ∙ grid_zero c C in
        let y : grid f b d ≡ 0 = ap (λ (x : ℕ). grid f x d) B ∙ grid_zero d D in
        omega arith

    pub round_order : (s t : Bool) → AtMost (d ⊙ signed s a) (c ⊙ signed t b) → AtMost (exact f (round f s a c)) (exact f (round f t b d))
    round_order s t l =
        rw (round_finite f s a c (number_of s a c C h).0, round_finite f t b d (number_of t b d D i).0) (in_order s t l)

-- ---- x is a number, at most n in size
pub record Sized (f : Format) (n : ℕ) (x : Float) : Type 0 where
  pub number : Number f x
  pub size : num x ≤ n * den x

module _ (f : Format) where
  alike : (s t : Bool) (a b : ℕ) → signed s a ≡ signed t b → a ≡ b
  alike false false a b e = ap (λ (v : Whole). v.0) e
  alike true true a b e = ap (λ (v : Whole). v.1) e
  alike false true a b e = omega (arith, ap (λ (v : Whole). v.0) e, ap (λ (v : Whole). v.1) e)
  alike true false a b e = omega (arith, ap (λ (v : Whole). v.0) e, ap (λ (v : Whole). v.1) e)

  -- what the exact value says
  pub sized_of : (n : ℕ) (x : Float) (s : Bool) (g : ℕ) → Number f x → exact f x ≡ signed s g → g ≤ n * 2 ^ low f → Sized f n x
  unfolding exact
  sized_of n nan s g p e l = absurd p.0
  sized_of n (inf t) s g p e l = absurd p.0
  sized_of n (fin t m e) s g p h l =
      let same : mag f (fin t m e) ≡ g = alike t s (mag f (fin t m e)) g h in
      let M : mag f (fin t m e) * down e ≡ m * up e * 2 ^ low f = mag_exact f (fin t m e) p.1 in
      record { number = p; size = le_of_mul-le-mul_right {k = 2 ^ low f} (scaled (2 ^ low f) (m * up e) (mag f (fin t m e)) n (down e) M (rw same l)) (pow_pos (low f)) }
    where
      scaled : (L x g n d : ℕ) → g * d ≡ x * L → g ≤ n * L → x * L ≤ n * d * L
      scaled L x g n d e h = omega (arith, mul-le-mul_right d h)

  -- and the other way
  pub sized_units : (n : ℕ) (x : Float) → Sized f n x → mag f x ≤ n * 2 ^ low f
  sized_units n nan s = absurd s.number.0
  sized_units n (inf t) s = absurd s.number.0
  sized_units n (fin t m e) s = le_of_mul-le-mul_right {k = down e} (back (2 ^ low f) (m * up e) (mag f (fin t m e)) n (down e) (mag_exact f (fin t m e) s.number.1) s.size) (down_pos e)
    where
      back : (L x g n d : ℕ) → g * d ≡ x * L → x ≤ n * d → g * d ≤ n * L * d
      back L x g n d e h = omega (arith, mul-le-mul_right L h)

  pub sized_below : (n : ℕ) (x : Float) → Sized f n x → (k : ℕ) → n < 2 ^ k → Below (2 ^ (k + low f)) (exact f x)
  unfolding exact
  sized_below n nan s k l = absurd s.number.0
  sized_below n (inf t) s k l = absurd s.number.0
  sized_below n (fin t m e) s k l =
      spread t (mag f (fin t m e)) (2 ^ (k + low f)) (rw (pow-add 2 k (low f)) (lt_of_le_of_lt (sized_units n (fin t m e) s) (mul-lt-mul_of_pos_right l (pow_pos (low f)))))
    where
      spread : (t : Bool) (a b : ℕ) → a < b → Below b (signed t a)
      spread false a b h = omega arith
      spread true a b h = omega arith

  wide : suc (prec f) ≤ emax f
  wide = go f
    where
      go : (f : Format) → suc (prec f) ≤ emax f
      go binary32 = lit≤ tt
      go binary64 = lit≤ tt

  -- one rounding of a fraction that is at most n
  pub round_sized : (s : Bool) (a c n : ℕ) → 0 < c → n ≤ 2 ^ prec f → a ≤ n * c → Sized f n (round f s a c)
  round_sized s a c n C N h =
      let k = suc (prec f) in
      let under : n < 2 ^ k = lt_of_le_of_lt N (pow-lt {i = prec f} {j = k} (omega arith)) in
      let A : a < 2 ^ k * c = lt_of_le_of_lt h (mul-lt-mul_of_pos_right under C) in
      let B : n < 2 ^ k * 1 = rw mul-one under in
      let p = number_of f k wide s a c C A in
      let q = number_of f k wide false n 1 (zero-lt-suc 0) B in
      let g : grid f a c ≤ grid f n 1 = grid_mono f k wide a c n 1 C (zero-lt-suc 0) A B (rw mul-one h) in
      let e : signed false (grid f n 1) ≡ signed false (n * 2 ^ low f) = sym (round_finite f false n 1 q.0) ∙ int_exact f false n N in
      sized_of n (round f s a c) s (grid f a c) p (round_finite f s a c p.0) (omega (arith, ap (λ (v : Whole). v.0) e))

  -- a product
  pub mul_sized : (a b : ℕ) (x y : Float) → Sized f a x → Sized f b y → a * b ≤ 2 ^ prec f → Sized f (a * b) (mul f x y)
  unfolding mul
  mul_sized a b nan y p q l = absurd p.number.0
  mul_sized a b (inf s) y p q l = absurd p.number.0
  mul_sized a b (fin s m e) nan p q l = absurd q.number.0
  mul_sized a b (fin s m e) (inf t) p q l = absurd q.number.0
  mul_sized a b (fin s m e) (fin t n d) p q l =
      round_sized (unlike s t) (m * up e * (n * up d)) (down e * down d) (a * b) (mul-pos (down_pos e) (down_pos d)) l
      (rw (mul-mul-mul_comm a b (down e) (down d)) (mul-le-mul p.size q.size))

  -- a quotient by a whole number
  pub div_sized : (a k : ℕ) (x y : Float) → Sized f a x → HasValue y false k 1 → 0 < k → a ≤ 2 ^ prec f → Sized f a (div f x y)
  unfolding div
  div_sized a k nan y p v K l = absurd p.number.0
  div_sized a k (inf s) y p v K l = absurd p.number.0
  div_sized a k (fin s m e) nan p v K l = absurd v
  div_sized a k (fin s m e) (inf t) p v K l = absurd v
  div_sized a k (fin s m e) (fin t n d) p v K l = go (eqb n 0) (eqb→eq n 0)
    where
      some : n * up d ≡ k * down d
      some = sym (mul-one (n * up d)) ∙ v.1

      large : down d ≤ n * up d
      large = rw some (omega (arith, mul-le-mul_right (down d) K))

      go : (o : Bool) → (T o → n ≡ 0) → Sized f a (cond o (cond (eqb m 0) nan (inf (unlike s t))) (round f (unlike s t) (m * up e * down d) (n * up d * down e)))
      go true u = absurd (omega (arith, down_pos d, large, ap (λ (x : ℕ). x * up d) (u tt)))
      go false u =
          round_sized (unlike s t) (m * up e * down d) (n * up d * down e) a (mul-pos (lt_of_lt_of_le (down_pos d) large) (down_pos e)) l
          (rw (← mul_assoc a (n * up d) (down e), mul_right_comm a (n * up d) (down e)) (mul-le-mul p.size large))

  -- a whole number
  pub whole_sized : (s : Bool) (n : ℕ) → n ≤ 2 ^ prec f → Sized f n (round f s n 1)
  whole_sized s n N = round_sized s n 1 n (zero-lt-suc 0) N (rw mul-one (omega arith))

  -- a difference of two whole numbers
  pub sub_sized : (n a b : ℕ) → a ≤ n → b ≤ n → n ≤ 2 ^ prec f → Sized f n (sub f (round f false a 1) (round f false b 1))
  sub_sized n a b A B N =
      let p = whole_sized false a (le_trans A N) in
      let q = whole_sized false b (le_trans B N) in
      let r = sub_is f (round f false a 1) (round f false b 1) p.number q.number in
      subst (Sized f n) (sym r.2)
      (round_sized r.0 r.1 (2 ^ low f) n (pow_pos (low f)) N
      (apart r.0 r.1 (2 ^ low f) a b n A B
      (subst (λ (v : Whole). Same (signed r.0 r.1) (v ⊖ (b * 2 ^ low f, 0))) (int_exact f false a (le_trans A N))
      (subst (λ (v : Whole). Same (signed r.0 r.1) (exact f (round f false a 1) ⊖ v)) (int_exact f false b (le_trans B N)) r.3))))
    where
      apart : (s : Bool) (u L a b n : ℕ) → a ≤ n → b ≤ n → Same (signed s u) ((a * L, 0) ⊖ (b * L, 0)) → u ≤ n * L
      apart false u L a b n A B e = omega (arith, mul-le-mul_right L A)
      apart true u L a b n A B e = omega (arith, mul-le-mul_right L B)
