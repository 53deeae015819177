-- Digits and the bytes that show them: a digit is read back from its byte, and a number below 2 ^ 64 from its 16 hex digits. Assumes nothing.
use mathlib.Core.Bool.{Bool, true, false}
use mathlib.Core.List.{List, [], ◌∷◌, ◌++◌}
use mathlib.Core.Path.{◌≡◌, refl, sym, ap, ◌∙◌}
use Prim.Native.Nat.{ℕ, zero, suc, ◌+◌, ◌-◌, ◌*◌, ◌/◌, ◌%◌, ◌^◌, ◌<◌, ◌≤◌}
use native.Mathlib.Nat.{mod-lt, mod-one, pow-succ', mul_assoc, add-mul, add_assoc}
use native.Mathlib.Numerals.{add-one}
use native.Mathlib.Omega.{arith}
use borrow.Author.Tests.{lt-ltb, le-ltb, ltb-true, ltb-false}
use lib.Arith.{mod-mul}
use lib.Dec.{ltb, lit<}
use lib.ListN.{length, get_or, set, length-set}
use lib.Seq.{paste, paste-zero, paste-suc}
use lib.Pow.{pow_pos, pow-add}
use Rattle.text.specs.Digits.{glyph_of, digit_of, digits_of, hex_digits, numeral_from}

-- ---- a digit and its byte
low_glyph : (d : ℕ) → d < 10 → digit_of (glyph_of d) ≡ d
low_glyph d h = rw (lt-ltb d 10 h, le-ltb (48 + d) 48 (omega arith), lt-ltb (48 + d) 58 (omega arith)) (omega arith)

high_glyph : (d : ℕ) → 10 ≤ d → d < 16 → digit_of (glyph_of d) ≡ d
high_glyph d h l =
    rw (le-ltb d 10 h, le-ltb (87 + d) 48 (omega arith), le-ltb (87 + d) 58 (omega arith), le-ltb (87 + d) 97 (omega arith), lt-ltb (87 + d) 103 (omega arith)) (omega arith)

pub glyph_back : (d : ℕ) → d < 16 → digit_of (glyph_of d) ≡ d
glyph_back d l = go (ltb d 10) refl
  where
    go : (t : Bool) → ltb d 10 ≡ t → digit_of (glyph_of d) ≡ d
    go true e = low_glyph d (ltb-true d 10 e)
    go false e = high_glyph d (ltb-false d 10 e) l

-- ---- the hex digits of a number
pub length_digits : (k n : ℕ) → length (digits_of k n) ≡ k
unfolding digits_of
length_digits zero n = refl
length_digits (suc k) n = ap suc (length_digits k n)

-- 16 ^ k is a power of 2
pub sixteens : (k : ℕ) → 16 ^ k ≡ 2 ^ (4 * k)
sixteens zero = refl
sixteens (suc k) =
    let e : 4 + 4 * k ≡ 4 * suc k = omega arith in
    pow-succ' 16 k ∙ ap (λ (p : ℕ). 16 * p) (sixteens k) ∙ sym (pow-add 2 4 (4 * k)) ∙ ap (λ (p : ℕ). 2 ^ p) e

pub positive : (k : ℕ) → 0 < 16 ^ k
positive k = rw (sixteens k) (pow_pos (4 * k))

-- the digit at the place j is the one of 16 ^ (k - j)
digit_at : (k n j : ℕ) → j ≤ k → get_or (digits_of (suc k) n) j 0 ≡ glyph_of (n / 16 ^ (k - j) % 16)
unfolding digits_of
digit_at k n zero h =
    let e : k ≡ k - 0 = omega arith in
    ap (λ (p : ℕ). glyph_of (n / 16 ^ p % 16)) e
digit_at zero n (suc j) h = absurd (omega arith)
digit_at (suc k) n (suc j) h =
    let e : k - j ≡ suc k - suc j = omega arith in
    digit_at k n j (omega arith) ∙ ap (λ (p : ℕ). glyph_of (n / 16 ^ p % 16)) e

-- as the code finds it, by a shift
pub hex_digit_at : (n j : ℕ) → j < 16 → get_or (hex_digits n) j 0 ≡ glyph_of (n / 2 ^ (60 - 4 * j) % 16)
hex_digit_at n j h =
    let e : 4 * (15 - j) ≡ 60 - 4 * j = omega arith in
    digit_at 15 n j (omega arith) ∙ ap (λ (p : ℕ). glyph_of (n / p % 16)) (sixteens (15 - j) ∙ ap (λ (p : ℕ). 2 ^ p) e)

-- ---- the number of a row of digits
-- the digit of 16 ^ k joins what stands behind it
pub joined : (v n k : ℕ) → (v * 16 + n / 16 ^ k % 16) * 16 ^ k + n % 16 ^ k ≡ v * 16 ^ suc k + n % 16 ^ suc k
joined v n k =
    let d = n / 16 ^ k % 16 in
    let p = 16 ^ k in
    ap (λ (x : ℕ). x + n % p) (add-mul (v * 16) d p ∙ ap (λ (x : ℕ). x + d * p) (mul_assoc v 16 p))
    ∙ add_assoc (v * (16 * p)) (d * p) (n % p)
    ∙ ap (λ (x : ℕ). v * (16 * p) + x) (sym (mod-mul n (lit< tt) (positive k)))
    ∙ ap (λ (q : ℕ). v * q + n % q) (sym (pow-succ' 16 k))

pub numeral_digits : (k n v : ℕ) → numeral_from 16 v (digits_of k n) ≡ v * 16 ^ k + n % 16 ^ k
unfolding digits_of numeral_from
numeral_digits zero n v = rw mod-one (omega arith)
numeral_digits (suc k) n v =
    let d = n / 16 ^ k % 16 in
    ap (λ (x : ℕ). numeral_from 16 (v * 16 + x) (digits_of k n)) (glyph_back d (mod-lt (n / 16 ^ k) (lit< tt)))
    ∙ numeral_digits k n (v * 16 + d)
    ∙ joined v n k

pub numeral_snoc : (b v c : ℕ) (w : List ℕ) → numeral_from b v (w ++ (c ∷ [])) ≡ numeral_from b v w * b + digit_of c
unfolding numeral_from
numeral_snoc b v c [] = refl
numeral_snoc b v c (a ∷ w) = numeral_snoc b (v * b + digit_of a) c w

-- ---- the loop that puts them: x is d with the first k digits of n from the place at on
pub record Put (d : List ℕ) (at n : ℕ) (x : List ℕ) (k : ℕ) : Type 0 where
  pub long : length x ≡ length d
  pub is : x ≡ paste d at (hex_digits n) k

pub put_none : (d : List ℕ) (at n : ℕ) → Put d at n d 0
put_none d at n = record { long = refl; is = paste-zero d at (hex_digits n) }

pub put_next : (d : List ℕ) (at n : ℕ) (x : List ℕ) (k v : ℕ) → Put d at n x k → at + 16 ≤ length d → k < 16
    → v ≡ glyph_of (n / 2 ^ (60 - 4 * k) % 16) → Put d at n (set x (at + k) v) (k + 1)
put_next d at n x k v p h l e = record {
  long = simp length-set p.long;
  is = rw (p.is, e, ← hex_digit_at n k l, add-one) (paste-suc d at (hex_digits n) k 0 (omega arith) (omega (arith, length_digits 16 n)));
}

pub put_done : (d : List ℕ) (at n : ℕ) (x : List ℕ) (k : ℕ) → Put d at n x k → k ≡ 16 → x ≡ paste d at (hex_digits n) 16
put_done d at n x k p e = p.is ∙ ap (λ (j : ℕ). paste d at (hex_digits n) j) e
