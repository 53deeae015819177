-- What the doubles of a block are worth, in units of 2 ^ -1074: the constants, a count, a number above 0, a half. Assumes nothing.
use mathlib.Core.Bool.{true, false}
use mathlib.Core.Path.{◌≡◌, refl, sym, ap, subst}
use Prim.Native.Nat.{ℕ, ◌+◌, ◌*◌, ◌^◌, ◌≤◌, ◌<◌}
use native.Mathlib.Nat.{le_of_mul-le-mul_left, mul-lt-mul_of_pos_left}
use native.Mathlib.Omega.{arith}
use lib.Ieee.{Float, nan, inf, fin, binary64, emax, low, fits, of_bits}
use lib.Ieee.Back.{round_whole}
use lib.Pow.{pow-add, pow_pos}
use Rattle.exact.specs.Doubles.{◌-f◌, ◌*f◌, count, zero_f, half_f}
use Rattle.exact.specs.Whole.{Whole, ◌⊖◌, ◌⊙◌, ◌⊗◌, AtMost, Below, Within}
use Rattle.exact.specs.Exact.{mag, exact, Number}
use Rattle.exact.specs.Rounding.{slack}
use Rattle.exact.proofs.Sums.{sub_near}
use Rattle.exact.proofs.Products.{mul_near}
use Rattle.whole.proofs.Units.{whole_exact, whole_number}
use Rattle.sizes.specs.Bounds.{low_f, high_f}

-- ---- the constants
pub zero_exact : Number binary64 zero_f × (exact binary64 zero_f ≡ (0, 0))
unfolding of_bits exact fits
zero_exact = ((tt, tt), refl)

pub half_exact : Number binary64 half_f × (exact binary64 half_f ≡ (2 ^ 1073, 0))
unfolding of_bits exact fits
half_exact = ((tt, tt), refl)

pub low_exact : Number binary64 low_f × (exact binary64 low_f ≡ (0, 2 ^ 1091))
unfolding of_bits exact fits
low_exact = ((tt, tt), refl)

pub high_exact : Number binary64 high_f × (exact binary64 high_f ≡ (2 ^ 1091, 0))
unfolding of_bits exact fits
high_exact = ((tt, tt), refl)

-- ---- a count is itself, up to 2 ^ 53
pub count_exact : (n : ℕ) → n ≤ 2 ^ 53 → Number binary64 (count n) × (exact binary64 (count n) ≡ (n * 2 ^ 1074, 0))
count_exact n h = let v = round_whole binary64 false n h in (whole_number false n v, whole_exact false n v)

-- ---- the size of a number: from a up to b it is the number itself
pub mag_between : (a b : ℕ) (x : Float) → Number binary64 x → 0 < a → AtMost (a, 0) (exact binary64 x) → AtMost (exact binary64 x) (b, 0)
    → (exact binary64 x ≡ (mag binary64 x, 0)) × (a ≤ mag binary64 x) × (mag binary64 x ≤ b)
unfolding exact
mag_between a b nan n p h k = absurd n.0
mag_between a b (inf s) n p h k = absurd n.0
mag_between a b (fin false m e) n p h k = (refl, omega arith, omega arith)
mag_between a b (fin true m e) n p h k = absurd (omega arith)

pub mag_is : (a : ℕ) (x : Float) → Number binary64 x → 0 < a → exact binary64 x ≡ (a, 0) → mag binary64 x ≡ a
unfolding exact
mag_is a nan n p h = absurd n.0
mag_is a (inf s) n p h = absurd n.0
mag_is a (fin false m e) n p h = ap (λ (v : Whole). v.0) h
mag_is a (fin true m e) n p h = absurd (omega (arith, ap (λ (v : Whole). v.0) h))

pub mag_below : (b : ℕ) (x : Float) → Number binary64 x → Below b (exact binary64 x) → mag binary64 x < b
unfolding exact
mag_below b nan p h = absurd p.0
mag_below b (inf s) p h = absurd p.0
mag_below b (fin false m e) p h = omega arith
mag_below b (fin true m e) p h = omega arith

pub looser : (d e : ℕ) (v w : Whole) → d ≤ e → Within d v w → Within e v w
looser d e v w l h = omega arith

-- ---- half of x, rounded once: twice it is at most two slacks away from x
halve_below : (H P : ℕ) (x : Whole) → 0 < H → Below (P * (2 * H)) x → Below (P * (2 * H * (2 * H))) ((H, 0) ⊗ x)
halve_below H P x p h = omega (arith, mul-lt-mul_of_pos_left h.0 p, mul-lt-mul_of_pos_left h.1 p, mul-lt-mul_of_pos_left p p)

halve_near : (H s : ℕ) (x y : Whole) → 0 < H → Within (2 * H * s) (2 * H ⊙ y) ((H, 0) ⊗ x) → Within (2 * s) (2 ⊙ y) x
halve_near H s x y p h =
    let a : H * (2 * y.0 + x.1) ≤ H * (x.0 + 2 * y.1 + 2 * s) = omega arith in
    let b : H * (x.0 + 2 * y.1) ≤ H * (2 * y.0 + x.1 + 2 * s) = omega arith in
    omega (arith, le_of_mul-le-mul_left a p, le_of_mul-le-mul_left b p)

pub half_near : (k : ℕ) (x : Float) → Number binary64 x → k ≤ emax binary64 → Below (2 ^ (k + low binary64)) (exact binary64 x)
    → Number binary64 (half_f *f x) × Within (2 * slack binary64 k) (2 ⊙ exact binary64 (half_f *f x)) (exact binary64 x)
half_near k x p l h =
    let e = half_exact.1 in
    let b = subst (λ (n : ℕ). Below n (exact binary64 x)) (pow-add 2 k 1074) h in
    let r = mul_near binary64 k half_f x half_exact.0 p l
    (subst (λ (v : Whole). Below (2 ^ k * (2 ^ 1074 * 2 ^ 1074)) (v ⊗ exact binary64 x)) (sym e) (halve_below (2 ^ 1073) (2 ^ k) (exact binary64 x) (pow_pos 1073) b)) in (
      r.0,
      halve_near (2 ^ 1073) (slack binary64 k) (exact binary64 x) (exact binary64 (half_f *f x)) (pow_pos 1073)
          (subst (λ (v : Whole). Within (2 ^ 1074 * slack binary64 k) (2 ^ 1074 ⊙ exact binary64 (half_f *f x)) (v ⊗ exact binary64 x)) e r.1),
    )

-- ---- x - y, where v and w are what x and y are worth; and looser than by the slack
pub sub_of : (k e : ℕ) (x y : Float) (v w : Whole) → Number binary64 x → Number binary64 y → exact binary64 x ≡ v → exact binary64 y ≡ w
    → k ≤ emax binary64 → slack binary64 k ≤ e → Below (2 ^ (k + low binary64)) (v ⊖ w)
    → Number binary64 (x -f y) × Within e (exact binary64 (x -f y)) (v ⊖ w)
sub_of k e x y v w p q a b l o h =
    let r = sub_near binary64 k x y p q l (rw (a, b) h) in
    (r.0, looser (slack binary64 k) e (exact binary64 (x -f y)) (v ⊖ w) o (rw (a, b) at r.1))
