-- How far `round` can be from the fraction that it is handed. Assumes nothing.
use mathlib.Core.Bool.{Bool, true, false, not, cond}
use mathlib.Core.Path.{◌≡◌, sym, ap, ◌∙◌, subst}
use Prim.Native.Nat.{ℕ, zero, suc, ◌+◌, ◌-◌, ◌*◌, ◌/◌, ◌%◌, ◌^◌, ◌≤◌, ◌<◌, compare, Ordering}
use native.Mathlib.Nat.{lt_of_not-le, not-le_of_lt, lt_of_lt_of_le, le_of_lt, sub-eq-zero_of_le, one-mul, le-div_iff_mul-le, mul-le-mul_right, mul-lt-mul_of_pos_right, le_trans, le_of_eq, lt_of_le_of_lt, mul_comm, mul_assoc, mul_right_comm, mul_left_comm, mul-le-mul, mul-le-mul_left, mul-pos, mod-lt, div-add-mod', div-lt_iff_lt-mul, div-div-eq-div-mul, pow-succ'}
use native.Mathlib.Omega.{arith}
use lib.Arith.{lt_of_le-ne}
use lib.Dec.{lit≤, T, is_le, compare_is_eq, eqb, leb, ltb, ltb→lt, leb→le, nleb→lt, eqb→eq, eqb_refl}
use lib.Ieee.{Float, inf, Format, odd, binary32, binary64, prec, emax, low, size, nearest, units, round}
use lib.Ieee.Digits.{size-le, size-lt, size_reaches, back}
use lib.Ieee.Exact.{HasValue, units_val}
use lib.Ieee.Fits.{kept-lt, nearest-le, round_is, round-fits, two, two-le_pos}
use lib.Ieee.Nearest.{closest, nearest-ge}
use lib.Ieee.Order.{drop, kept}
use lib.Ieee.Scale.{grid, overflow, finite}
use lib.Pow.{pow-add, pow_pos, pow_mono, pow-lt}
use Rattle.exact.specs.Whole.{Whole, signed, ◌⊙◌, Below, Within}
use Rattle.exact.specs.Exact.{exact, Number}
use Rattle.exact.specs.Rounding.{slack}
use Rattle.exact.proofs.Exact.{exact_of, finite_of}

-- ---- what `compare` says
abbrev Cmp : Ordering → ℕ → ℕ → Type 0
Cmp Ordering.lt a b = a < b
Cmp Ordering.eq a b = a ≡ b
Cmp Ordering.gt a b = b < a

cmp : (a b : ℕ) → Cmp (compare a b) a b
cmp a b = go (compare a b) (leb→le a b) (nleb→lt a b) (eqb→eq a b) (λ (e : a ≡ b). subst (λ (x : ℕ). T (eqb a x)) e (eqb_refl a))
  where
    go : (o : Ordering) → (T (is_le o) → a ≤ b) → (T (not (is_le o)) → b < a) → (T (compare_is_eq o) → a ≡ b) → (a ≡ b → T (compare_is_eq o)) → Cmp o a b
    go Ordering.lt h k e n = lt_of_le-ne (h tt) n
    go Ordering.eq h k e n = e tt
    go Ordering.gt h k e n = k tt

-- ---- c * u is at most half of u away from n
abbrev Half : ℕ → ℕ → ℕ → Type 0
Half c u n = (c * u * 2 ≤ n * 2 + u) × (n * 2 ≤ c * u * 2 + u)

tie : (b q r u n : ℕ) → b < 2 → r * 2 ≡ u → q * u + r ≡ n → Half (q + b) u n
tie zero q r u n l h e = omega arith
tie (suc zero) q r u n l h e = omega arith
tie (suc (suc b)) q r u n l h e = omega arith

nearest_half : (o : Ordering) (q r u n : ℕ) → Cmp o (r * 2) u → r < u → q * u + r ≡ n → Half (nearest q o) u n
nearest_half Ordering.lt q r u n c l e = omega arith
nearest_half Ordering.eq q r u n c l e = tie (q % 2) q r u n (mod-lt q (pow_pos 1)) c e
nearest_half Ordering.gt q r u n c l e = omega arith

closest_half : (n u : ℕ) → 0 < u → Half (closest n u) u n
closest_half n u U = nearest_half (compare (n % u * 2) u) (n / u) (n % u) u n (cmp (n % u * 2) u) (mod-lt n U) (div-add-mod' n u)

-- ---- a whole part below 2 ^ (p + j) loses at most j digits
spare : (z p l : ℕ) → z ≤ p + l → z - p ≤ l
spare z p l h = omega arith

drop_le : (p n den j : ℕ) → 0 < den → n < 2 ^ (p + j) * den → drop p n den ≤ j
drop_le p n den j D h = spare (size (n / den)) p j (size-le (n / den) (p + j) ((div-lt_iff_lt-mul D).1 h))

kept_le : (p n den : ℕ) → kept p n den ≤ 2 ^ p
kept_le p n den =
    let k = drop p n den in
    let u = den * 2 ^ k in
    le_trans (nearest-le (n / u) (compare (n % u * 2) u)) (subst (λ (x : ℕ). x < 2 ^ p) (div-div-eq-div-mul n den (2 ^ k)) (kept-lt p (n / den)))

halve : (g t u n v : ℕ) → (g * 2 ≤ n * 2 + u) × (n * 2 ≤ g * 2 + u) → u ≤ v → v ≡ 2 * t → (g ≤ n + t) × (n ≤ g + t)
halve g t u n v h l e = omega arith

grid_near : (p n den i : ℕ) → 0 < den → n < 2 ^ (p + suc i) * den → (kept p n den * 2 ^ drop p n den * den ≤ n + den * 2 ^ i) × (n ≤ kept p n den * 2 ^ drop p n den * den + den * 2 ^ i)
grid_near p n den i D h =
    let k = drop p n den in
    let c = kept p n den in
    let e : c * (den * 2 ^ k) ≡ c * 2 ^ k * den = ap (λ (x : ℕ). c * x) (mul_comm den (2 ^ k)) ∙ sym (mul_assoc c (2 ^ k) den) in
    halve (c * 2 ^ k * den) (den * 2 ^ i) (den * 2 ^ k) n (den * 2 ^ suc i)
    (subst (λ (x : ℕ). (x * 2 ≤ n * 2 + den * 2 ^ k) × (n * 2 ≤ x * 2 + den * 2 ^ k)) e (closest_half n (den * 2 ^ k) (mul-pos D (pow_pos k))))
    (mul-le-mul_left den (pow_mono (drop_le p n den (suc i) D h)))
    (ap (λ (x : ℕ). den * x) (pow-succ' 2 i) ∙ mul_left_comm den 2 (2 ^ i))

grid_le : (p n den j : ℕ) → 0 < den → n < 2 ^ (p + j) * den → kept p n den * 2 ^ drop p n den ≤ 2 ^ (p + j)
grid_le p n den j D h = le_trans (mul-le-mul (kept_le p n den) (pow_mono (drop_le p n den j D h))) (le_of_eq (sym (pow-add 2 p j)))

-- ---- the law of rounding, in units of the format's smallest value: below 2 ^ (prec + 1 + i) units, `round` is at most 2 ^ i units off
grid_value : (f : Format) (s : Bool) (num den j : ℕ) → 0 < den → num * 2 ^ low f < 2 ^ (prec f + j) * den → prec f + j ≤ low f + emax f
    → HasValue (round f s num den) s (grid f num den) (2 ^ low f)
grid_value f s num den j D h k =
    subst (λ (x : Float). HasValue x s (grid f num den) (2 ^ low f)) (sym (round_is f s num den))
    (units_val f s (kept (prec f) (num * 2 ^ low f) den) (drop (prec f) (num * 2 ^ low f) den)
    (lt_of_le_of_lt (grid_le (prec f) (num * 2 ^ low f) den j D h) (pow-lt (omega arith))))

with_sign : (s : Bool) (den g n e : ℕ) → (g * den ≤ n + e) × (n ≤ g * den + e) → Within e (den ⊙ signed s g) (signed s n)
with_sign false den g n e h = omega arith
with_sign true den g n e h = omega arith

pub round_within : (f : Format) (s : Bool) (num den i : ℕ) → 0 < den → num * 2 ^ low f < 2 ^ (prec f + suc i) * den → prec f + suc i ≤ low f + emax f
    → Number f (round f s num den) × Within (den * 2 ^ i) (den ⊙ exact f (round f s num den)) (signed s (num * 2 ^ low f))
round_within f s num den i D h k =
    let v = grid_value f s num den (suc i) D h k in (
      (finite_of (round f s num den) s (grid f num den) (2 ^ low f) v, round-fits f s num den),
      subst (λ (x : Whole). Within (den * 2 ^ i) (den ⊙ x) (signed s (num * 2 ^ low f))) (sym (exact_of f (round f s num den) s (grid f num den) v))
          (with_sign s den (grid f num den) (num * 2 ^ low f) (den * 2 ^ i) (grid_near (prec f) (num * 2 ^ low f) den i D h)),
    )

three : (f : Format) → 3 ≤ emax f
three binary32 = lit≤ tt
three binary64 = lit≤ tt

digits : (f : Format) (k : ℕ) → prec f + suc (k + emax f - 3) ≡ k + low f
digits f k = omega (arith, two f, three f)

pub round_near : (f : Format) (s : Bool) (num den k : ℕ) → 0 < den → num < 2 ^ k * den → k ≤ emax f
    → Number f (round f s num den) × Within (den * slack f k) (den ⊙ exact f (round f s num den)) (signed s (num * 2 ^ low f))
round_near f s num den k D h l =
    round_within f s num den (k + emax f - 3) D
    (subst (λ (x : ℕ). num * 2 ^ low f < x * den) (sym (ap (λ (x : ℕ). 2 ^ x) (digits f k) ∙ pow-add 2 k (low f)))
    (subst (λ (x : ℕ). num * 2 ^ low f < x) (mul_right_comm (2 ^ k) den (2 ^ low f)) (mul-lt-mul_of_pos_right h (pow_pos (low f)))))
    (omega (arith, digits f k))

-- ---- the other way: what is rounded to a number below 2 ^ j units was below that before
size_gt : (n j : ℕ) → 2 ^ j ≤ n → j < size n
size_gt n j h = lt_of_not-le (λ (g : size n ≤ j). not-le_of_lt (lt_of_lt_of_le (size-lt n) (pow_mono g)) h)

fewer : (z p j : ℕ) → 0 < p → j < z → z - p < z
fewer z p j P h = omega arith

-- 2 ^ j and 2 ^ k are at most w, so 2 ^ (j - k) * 2 ^ k is, and that is 2 ^ j at least
larger : (w j k : ℕ) → 2 ^ j ≤ w → 2 ^ k ≤ w → (2 ^ j ≤ 2 ^ (j - k) * 2 ^ k) × (2 ^ (j - k) * 2 ^ k ≤ w)
larger w j k h i = go (leb k j) (leb→le k j) (nleb→lt k j)
  where
    go : (o : Bool) → (T o → k ≤ j) → (T (not o) → j < k) → (2 ^ j ≤ 2 ^ (j - k) * 2 ^ k) × (2 ^ (j - k) * 2 ^ k ≤ w)
    go true u v =
        let e : 2 ^ (j - k) * 2 ^ k ≡ 2 ^ j = sym (pow-add 2 (j - k) k) ∙ ap (λ (x : ℕ). 2 ^ x) (back j k (u tt)) in
        omega arith
    go false u v =
        let e : 2 ^ (j - k) * 2 ^ k ≡ 2 ^ k = ap (λ (x : ℕ). 2 ^ x * 2 ^ k) (sub-eq-zero_of_le (le_of_lt (v tt))) ∙ one-mul (2 ^ k) in
        omega (arith, pow_mono (le_of_lt (v tt)))

grid_ge : (p n den j : ℕ) → 0 < p → 0 < den → 2 ^ j * den ≤ n → 2 ^ j ≤ kept p n den * 2 ^ drop p n den
grid_ge p n den j P D h =
    let w = n / den in
    let k = drop p n den in
    let u = den * 2 ^ k in
    let a : 2 ^ j ≤ w = (le-div_iff_mul-le D).1 h in
    let b = larger w j k a (size_reaches w k (fewer (size w) p j P (size_gt w j a))) in
    let c : 2 ^ (j - k) ≤ n / u = subst (λ (x : ℕ). 2 ^ (j - k) ≤ x) (div-div-eq-div-mul n den (2 ^ k)) ((le-div_iff_mul-le (pow_pos k)).1 b.1) in
    le_trans b.0 (mul-le-mul_right (2 ^ k) (le_trans c (nearest-ge (n / u) (compare (n % u * 2) u))))

units_under : (f : Format) (s : Bool) (q k : ℕ) → T (finite (units f s q k)) → q * 2 ^ k < overflow f
unfolding units
units_under f s q k = go (ltb (q * 2 ^ k) (overflow f)) (ltb→lt (q * 2 ^ k) (overflow f))
  where
    go : (b : Bool) → (T b → q * 2 ^ k < overflow f) → T (finite (cond b (odd (suc (prec f)) s q k (low f)) (inf s))) → q * 2 ^ k < overflow f
    go true h t = h tt
    go false h t = absurd t

pub round_finite : (f : Format) (s : Bool) (num den : ℕ) → T (finite (round f s num den)) → exact f (round f s num den) ≡ signed s (grid f num den)
round_finite f s num den t =
    let q = kept (prec f) (num * 2 ^ low f) den in
    let k = drop (prec f) (num * 2 ^ low f) den in
    let v = units_val f s q k (units_under f s q k (subst (λ (z : Float). T (finite z)) (round_is f s num den) t)) in
    exact_of f (round f s num den) s (q * 2 ^ k) (subst (λ (z : Float). HasValue z s (q * 2 ^ k) (2 ^ low f)) (sym (round_is f s num den)) v)

pub signed_below : (s : Bool) (a b : ℕ) → Below b (signed s a) → a < b
signed_below false a b h = omega arith
signed_below true a b h = omega arith

pub round_bound : (f : Format) (s : Bool) (num den j : ℕ) → 0 < den → T (finite (round f s num den)) → Below (2 ^ j) (exact f (round f s num den)) → num * 2 ^ low f < 2 ^ j * den
round_bound f s num den j D t h =
    let b = signed_below s (grid f num den) (2 ^ j) (subst (λ (v : Whole). Below (2 ^ j) v) (round_finite f s num den t) h) in
    lt_of_not-le (λ (g : 2 ^ j * den ≤ num * 2 ^ low f). not-le_of_lt b (grid_ge (prec f) (num * 2 ^ low f) den j (two-le_pos (prec f) (two f)) D g))
