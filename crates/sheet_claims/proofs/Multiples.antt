-- A double that is a multiple of 2 ^ k units of 2 ^ -1074: a sum, a difference, a quotient and a path of such ones are. Assumes nothing.
use mathlib.Core.Bool.{Bool, true, false, beq, cond}
use mathlib.Core.Path.{◌≡◌, refl, sym, ap, ◌∙◌, subst}
use Prim.Native.Nat.{ℕ, zero, suc, ◌+◌, ◌-◌, ◌*◌, ◌/◌, ◌^◌, ◌≤◌, ◌<◌, ◌∣◌}
use native.Mathlib.Nat.{lt_of_not-le, not-le_of_lt, lt_of_lt_of_le, le_trans, le_of_eq, le_of_dvd, le_of_suc-le-suc, dvd-zero, dvd_trans, dvd-mul_left, dvd-mul_left_of_dvd, dvd-add, dvd-sub, div-mul_cancel, div-lt_iff_lt-mul, mul-div_cancel, mul-le-mul_left, mul-le-mul_right, mul-lt-mul_of_pos_right, mul-pos, eq_of_mul-eq-mul_right, pos_of_ne-zero, zero-mul, zero-div, lt_irrefl, zero-lt-suc}
use native.Mathlib.Omega.{arith}
use borrow.Author.Tests.{ltb-true, ltb-false}
use lib.Dec.{T, ltb, eqb, eqb→eq, lit≤}
use lib.Ieee.{Float, nan, inf, fin, Format, binary64, prec, emax, low, up, down, size, unlike, round, add, sub, neg, div}
use lib.Ieee.Digits.{size-lt, back}
use lib.Ieee.Exact.{round_exact}
use lib.Ieee.Fits.{up_pos, down_pos, add-fits, div-fits, neg-fits, round-fits}
use lib.Ieee.Order.{drop, kept}
use lib.Ieee.Scale.{finite, grid, round_same}
use lib.Pow.{pow-add, pow_pos, pow_mono}
use Rattle.exact.specs.Doubles.{◌+f◌, ◌-f◌, ◌/f◌}
use Rattle.exact.specs.Whole.{Whole, signed, ◌⊕◌, Same, Below}
use Rattle.exact.specs.Exact.{mag, exact, Number}
use Rattle.exact.specs.Rounding.{RoundOf}
use Rattle.exact.specs.Running.{run, walk}
use Rattle.exact.proofs.Exact.{mag_exact, exact_of}
use Rattle.exact.proofs.Rounding.{round_finite, round_bound}
use Rattle.exact.proofs.Sums.{add_is, exact_neg}
use Rattle.position.proofs.Tests.{Double}
use Rattle.position.proofs.Flat.{spelled}

-- 2 ^ k divides both parts
abbrev pub Divides : ℕ → Whole → Type 0
Divides k v = (2 ^ k ∣ v.0) × (2 ^ k ∣ v.1)

pow_dvd : (i j : ℕ) → i ≤ j → 2 ^ i ∣ 2 ^ j
pow_dvd i j h = subst (λ (x : ℕ). 2 ^ i ∣ x) (sym (pow-add 2 (j - i) i) ∙ ap (λ (x : ℕ). 2 ^ x) (back j i h)) (dvd-mul_left (2 ^ i) (2 ^ (j - i)))

signed_divides : (k : ℕ) (s : Bool) (a : ℕ) → 2 ^ k ∣ a → Divides k (signed s a)
signed_divides k false a h = (h, dvd-zero (2 ^ k))
signed_divides k true a h = (dvd-zero (2 ^ k), h)

-- ---- a whole number of units, rounded once: either it is held as it is, or k digits at least are dropped
size_gt : (n j : ℕ) → 2 ^ j ≤ n → j < size n
size_gt n j h = lt_of_not-le (λ (g : size n ≤ j). not-le_of_lt (lt_of_lt_of_le (size-lt n) (pow_mono g)) h)

dropped : (z p k : ℕ) → p + k < z → k ≤ z - p
dropped z p k h = omega arith

module _ (f : Format) (s : Bool) (a k : ℕ) (room : prec f + k ≤ low f + suc (emax f)) (d : 2 ^ k ∣ a) where
  abbrev rounded : Float
  rounded = round f s a (2 ^ low f)

  held : a < 2 ^ (prec f + k) → Divides k (exact f rounded)
  held h =
      let q = a / 2 ^ k in
      let e : q * 2 ^ k ≡ a = div-mul_cancel (2 ^ k) d in
      let v = round_exact f s a (2 ^ low f) q k (pow_pos (low f)) ((div-lt_iff_lt-mul (pow_pos k)).1 (subst (λ (x : ℕ). a < x) (pow-add 2 (prec f) k) h))
      (subst (λ (x : ℕ). x < 2 ^ (low f + suc (emax f))) (sym e) (lt_of_lt_of_le h (pow_mono room))) (ap (λ (x : ℕ). x * 2 ^ low f) (sym e)) in
      subst (Divides k) (sym (exact_of f rounded s a v)) (signed_divides k s a d)

  cut : T (finite rounded) → 2 ^ (prec f + k) ≤ a → Divides k (exact f rounded)
  cut t h =
      let n = a * 2 ^ low f in
      let e : n / 2 ^ low f ≡ a = mul-div_cancel a (pow_pos (low f)) in
      let l : k ≤ drop (prec f) n (2 ^ low f) = dropped (size (n / 2 ^ low f)) (prec f) k (size_gt (n / 2 ^ low f) (prec f + k) (subst (λ (x : ℕ). 2 ^ (prec f + k) ≤ x) (sym e) h)) in
      subst (Divides k) (sym (round_finite f s a (2 ^ low f) t))
      (signed_divides k s (grid f a (2 ^ low f)) (dvd-mul_left_of_dvd (2 ^ k) (pow_dvd k (drop (prec f) n (2 ^ low f)) l) (kept (prec f) n (2 ^ low f))))

  round_divides : T (finite rounded) → Divides k (exact f rounded)
  round_divides t = go (ltb a (2 ^ (prec f + k))) refl
    where
      go : (o : Bool) → ltb a (2 ^ (prec f + k)) ≡ o → Divides k (exact f rounded)
      go true e = held (ltb-true a (2 ^ (prec f + k)) e)
      go false e = cut t (ltb-false a (2 ^ (prec f + k)) e)

-- what is not finite is worth nothing here
lost : (f : Format) (x : Float) → finite x ≡ false → exact f x ≡ (0, 0)
unfolding exact
lost f nan e = refl
lost f (inf s) e = refl
lost f (fin s m d) e = absurd (let z : ◌≡◌ {A = ℕ} 0 1 = cc in omega arith)

nothing : (k : ℕ) → Divides k (0, 0)
nothing k = (dvd-zero (2 ^ k), dvd-zero (2 ^ k))

none_divides : (k : ℕ) (x : Float) → finite x ≡ false → Divides k (exact binary64 x)
none_divides k x e = subst (Divides k) (sym (lost binary64 x e)) (nothing k)

unless_lost : (f : Format) (k : ℕ) (x : Float) → (T (finite x) → Divides k (exact f x)) → Divides k (exact f x)
unless_lost f k x h = go (finite x) refl
  where
    go : (b : Bool) → finite x ≡ b → Divides k (exact f x)
    go true e = h (subst T (sym e) tt)
    go false e = subst (Divides k) (sym (lost f x e)) (nothing k)

-- ---- sums and differences
size_divides : (k : ℕ) (s : Bool) (a : ℕ) (v : Whole) → Same (signed s a) v → Divides k v → 2 ^ k ∣ a
size_divides k false a v e d = let z : v.0 - v.1 ≡ a = omega arith in subst (λ (x : ℕ). 2 ^ k ∣ x) z (dvd-sub (2 ^ k) d.0 d.1)
size_divides k true a v e d = let z : v.1 - v.0 ≡ a = omega arith in subst (λ (x : ℕ). 2 ^ k ∣ x) z (dvd-sub (2 ^ k) d.1 d.0)

of_round : (f : Format) (k : ℕ) (x : Float) (v : Whole) → prec f + k ≤ low f + suc (emax f) → RoundOf f x v → Divides k v → Divides k (exact f x)
of_round f k x v room (s, a, e, w) d =
    subst (λ (y : Float). Divides k (exact f y)) (sym e)
    (unless_lost f k (round f s a (2 ^ low f)) (round_divides f s a k room (size_divides k s a v w d)))

-- x is a double, and a multiple of 2 ^ k units
pub record Multiple (k : ℕ) (x : Float) : Type 0 where
  pub double : Double x
  pub parts : Divides k (exact binary64 x)

pub fewer : (i j : ℕ) (x : Float) → i ≤ j → Multiple j x → Multiple i x
fewer i j x l h = record { double = h.double; parts = (dvd_trans (2 ^ i) (pow_dvd i j l) h.parts.0, dvd_trans (2 ^ i) (pow_dvd i j l) h.parts.1) }

pub minus : (k : ℕ) (x : Float) → Multiple k x → Multiple k (neg x)
minus k x h = record { double = neg-fits binary64 x h.double; parts = subst (Divides k) (sym (exact_neg binary64 x)) (h.parts.1, h.parts.0) }

-- a sum with a part that is not finite is not finite
either_lost : (b s : Bool) → finite (cond b (inf s) nan) ≡ false
either_lost true s = refl
either_lost false s = refl

first_lost : (x y : Float) → finite x ≡ false → finite (x +f y) ≡ false
unfolding add
first_lost nan y e = refl
first_lost (inf s) nan e = refl
first_lost (inf s) (inf t) e = either_lost (beq s t) s
first_lost (inf s) (fin t n d) e = refl
first_lost (fin s m c) y e = absurd (let z : ◌≡◌ {A = ℕ} 0 1 = cc in omega arith)

second_lost : (x y : Float) → finite x ≡ true → finite y ≡ false → finite (x +f y) ≡ false
unfolding add
second_lost nan y h e = absurd (let z : ◌≡◌ {A = ℕ} 0 1 = cc in omega arith)
second_lost (inf s) y h e = absurd (let z : ◌≡◌ {A = ℕ} 0 1 = cc in omega arith)
second_lost (fin s m c) nan h e = refl
second_lost (fin s m c) (inf t) h e = refl
second_lost (fin s m c) (fin t n d) h e = absurd (let z : ◌≡◌ {A = ℕ} 0 1 = cc in omega arith)

module _ (k : ℕ) (room : 53 + k ≤ 2098) where
  sum_divides : (x y : Float) → Multiple k x → Multiple k y → Divides k (exact binary64 (x +f y))
  sum_divides x y p q = go (finite x) (finite y) refl refl
    where
      go : (a b : Bool) → finite x ≡ a → finite y ≡ b → Divides k (exact binary64 (x +f y))
      go true true h e =
          of_round binary64 k (x +f y) (exact binary64 x ⊕ exact binary64 y) room (add_is binary64 x y (subst T (sym h) tt, p.double) (subst T (sym e) tt, q.double))
          (dvd-add (2 ^ k) p.parts.0 q.parts.0, dvd-add (2 ^ k) p.parts.1 q.parts.1)
      go true false h e = none_divides k (x +f y) (second_lost x y h e)
      go false b h e = none_divides k (x +f y) (first_lost x y h)

  plus : (x y : Float) → Multiple k x → Multiple k y → Multiple k (x +f y)
  plus x y p q = record { double = add-fits binary64 x y; parts = sum_divides x y p q }

  pub less : (x y : Float) → Multiple k x → Multiple k y → Multiple k (x -f y)
  unfolding sub
  less x y p q = plus x (neg y) p (minus k y q)

  -- the running sums
  run_multiple : (n : ℕ) (x t : Float) → Multiple k x → Multiple k t → Multiple k (run binary64 n x t)
  unfolding run
  run_multiple zero x t p q = p
  run_multiple (suc n) x t p q = plus (run binary64 n x t) t (run_multiple n x t p q) q

  pub walk_multiple : (n : ℕ) (x t d : Float) → Multiple k x → Multiple k t → Multiple k d → Multiple k (walk binary64 n x t d)
  unfolding walk
  walk_multiple zero x t d p q r = p
  walk_multiple (suc n) x t d p q r = plus (walk binary64 n x t d) (run binary64 (suc n) t d) (walk_multiple n x t d p q r) (run_multiple (suc n) t d q r)

-- ---- a large double is a multiple: its last digit is worth a lot
not_low : (s : Bool) (a b : ℕ) → a < b → Below b (signed s a)
not_low false a b h = omega arith
not_low true a b h = omega arith

pub large : (k : ℕ) (x : Float) → Number binary64 x → (Below (2 ^ (53 + k)) (exact binary64 x) → ⊥) → Multiple k x
large k x n h =
    let w = spelled x n in
    let a = w.digits * 2 ^ w.places in
    let l : k ≤ w.places = le_of_suc-le-suc (lt_of_not-le (λ (g : suc w.places ≤ k).
    h (subst (Below (2 ^ (53 + k))) (sym w.is) (not_low w.sign a (2 ^ (53 + k))
    (lt_of_lt_of_le (mul-lt-mul_of_pos_right w.few (pow_pos w.places)) (le_trans (le_of_eq (sym (pow-add 2 53 w.places))) (pow_mono (shorter w.places k g)))))))) in
    record { double = n.1; parts = subst (Divides k) (sym w.is) (signed_divides k w.sign a (dvd-mul_left_of_dvd (2 ^ k) (pow_dvd k w.places l) w.digits)) }
  where
    shorter : (p k : ℕ) → suc p ≤ k → 53 + p ≤ 53 + k
    shorter p k g = omega arith

-- ---- a quotient is one rounding of the sizes' quotient
parts_of : (L M N a b c d : ℕ) → 0 < L → a * c ≡ M * L → b * d ≡ N * L → M * d * b ≡ a * (N * c)
parts_of L M N a b c d P p q = eq_of_mul-eq-mul_right L P (M * d * b) (a * (N * c)) (omega (arith, ap (λ (z : ℕ). z * (b * d)) p, ap (λ (z : ℕ). a * c * z) q))

no_zero : (n u L c : ℕ) → 0 < n * u * L / c → n ≡ 0 → ⊥
no_zero n u L c h e = lt_irrefl 0 (simp (e, zero-mul, zero-div) at h)

div_is : (f : Format) (x y : Float) → Number f x → Number f y → 0 < mag f y → (s : Bool) × (div f x y ≡ round f s (mag f x) (mag f y))
unfolding div
div_is f nan y p q h = absurd p.0
div_is f (inf s) y p q h = absurd p.0
div_is f (fin s m e) nan p q h = absurd q.0
div_is f (fin s m e) (inf t) p q h = absurd q.0
div_is f (fin s m e) (fin t n d) p q h = (unlike s t, go (eqb n 0) (eqb→eq n 0))
  where
    go : (o : Bool) → (T o → n ≡ 0)
        → cond o (cond (eqb m 0) nan (inf (unlike s t))) (round f (unlike s t) (m * up e * down d) (n * up d * down e)) ≡ round f (unlike s t) (mag f (fin s m e)) (mag f (fin t n d))
    go true u = absurd (no_zero n (up d) (2 ^ low f) (down d) h (u tt))
    go false u =
        let N = mul-pos (mul-pos (pos_of_ne-zero (no_zero n (up d) (2 ^ low f) (down d) h)) (up_pos d)) (down_pos e) in
        round_same f (unlike s t) (m * up e * down d) (n * up d * down e) (mag f (fin s m e)) (mag f (fin t n d)) N h
        (parts_of (2 ^ low f) (m * up e) (n * up d) (mag f (fin s m e)) (mag f (fin t n d)) (down e) (down d) (pow_pos (low f)) (mag_exact f (fin s m e) p.1) (mag_exact f (fin t n d) q.1))

mag_divides : (k : ℕ) (x : Float) → Number binary64 x → Divides k (exact binary64 x) → 2 ^ k ∣ mag binary64 x
unfolding exact
mag_divides k nan n d = absurd n.0
mag_divides k (inf s) n d = absurd n.0
mag_divides k (fin false m e) n d = d.0
mag_divides k (fin true m e) n d = d.1

-- so a multiple of 2 ^ 1012 units by at most 2 ^ 16 is zero, or 2 ^ 996 units at least
module _ (s : Bool) (a b : ℕ) (B : 0 < b) (l : b ≤ 2 ^ 1090) (d : 2 ^ 1012 ∣ a) where
  zero_divides : a ≡ 0 → Divides 943 (exact binary64 (round binary64 s a b))
  zero_divides e =
      let z : round binary64 s a b ≡ round binary64 s 0 (2 ^ 1074) = ap (λ (x : ℕ). round binary64 s x b) e ∙ round_same binary64 s 0 b 0 (2 ^ 1074) B (pow_pos 1074) (zero-mul (2 ^ 1074) ∙ sym (zero-mul b)) in
      subst (λ (x : Float). Divides 943 (exact binary64 x)) (sym z) (unless_lost binary64 943 (round binary64 s 0 (2 ^ 1074)) (round_divides binary64 s 0 943 (lit≤ tt) (dvd-zero (2 ^ 943))))

  some_divides : 0 < a → Divides 943 (exact binary64 (round binary64 s a b))
  some_divides h = unless_lost binary64 943 (round binary64 s a b) (λ t.
      (large 943 (round binary64 s a b) (t, round-fits binary64 s a b) (λ g.
      not-le_of_lt (round_bound binary64 s a b 996 B t g) (le_trans (mul-le-mul_left (2 ^ 996) l) (mul-le-mul_right (2 ^ 1074) (le_of_dvd h d))))).parts)

  quotient_divides : Divides 943 (exact binary64 (round binary64 s a b))
  quotient_divides = go a refl
    where
      go : (n : ℕ) → a ≡ n → Divides 943 (exact binary64 (round binary64 s a b))
      go zero e = zero_divides e
      go (suc n) e = some_divides (subst (λ (x : ℕ). 0 < x) (sym e) (zero-lt-suc n))

pub quotient : (x y : Float) → Number binary64 x → Multiple 1012 x → Number binary64 y → 0 < mag binary64 y → mag binary64 y ≤ 2 ^ 1090 → Multiple 943 (x /f y)
quotient x y p d q h l =
    let r = div_is binary64 x y p q h in
    record {
      double = div-fits binary64 x y;
      parts = subst (λ (z : Float). Divides 943 (exact binary64 z)) (sym r.1) (quotient_divides r.0 (mag binary64 x) (mag binary64 y) h l (mag_divides 1012 x p d.parts));
    }
