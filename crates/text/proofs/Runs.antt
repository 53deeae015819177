-- Words read byte by byte come to what they are as a whole, and the digits that were put are read back. Assumes nothing.
use mathlib.Core.Bool.{Bool, true, false, cond, ◌&&◌, and_assoc, and_comm, and-true, and-false}
use mathlib.Core.List.{List, [], ◌∷◌, ◌++◌}
use mathlib.Core.Path.{◌≡◌, refl, sym, ap, ◌∙◌, subst}
use Prim.Native.Nat.{ℕ, zero, suc, ◌+◌, ◌-◌, ◌*◌, ◌/◌, ◌%◌, ◌^◌, min, ◌<◌, ◌≤◌}
use native.Mathlib.Nat.{le-div_iff_mul-le, div-lt_iff_lt-mul, mul-le-mul_left, mul-le-mul_right, le_trans, le_of_eq, le-min, min-le_left, min-eq_left, min-eq_right, mod-lt, mod-eq_of_lt, pow-zero, pow-succ', mul-one, mul_assoc, add-mul, lt_of_lt_of_le, not-le_of_lt}
use native.Mathlib.Numerals.{add-one}
use native.Mathlib.Omega.{arith}
use borrow.Author.Tests.{lt-ltb, le-ltb, ltb-true, ltb-false, ne_eqb}
use lib.Dec.{T, eqb, ltb, lit<, lit≤}
use lib.ListN.{length, get_or, take, length-append}
use lib.Seq.{take-suc, take-length}
use Rattle.text.specs.Digits.{digit_of, digits_of, hex_digits, numeral_from}
use Rattle.text.specs.Words.{numeral, only_digits, decimal_of, hex_of, digits, run_of, no_digits, step_digit, step_run, decimal_done, hex_done}
use Rattle.text.specs.declared.words.Run.{Run}
use Rattle.std.specs.Prelude.{Option, Some, None}
use Rattle.text.proofs.Glyphs.{glyph_back, length_digits, numeral_digits, numeral_snoc}

-- ---- one byte more: what the code's tests say. q is the room for the number before the digit d
module _ (b n v d : ℕ) where
  -- the byte is no digit of the base
  pub no_digit : b ≤ d → None ≡ step_digit b n v d
  unfolding step_digit
  no_digit h = rw (le-ltb d b h)

  -- the number would pass 2 ^ 64 - 1
  pub too_large : 0 < b → d < b → d ≤ 2 ^ 64 - 1 → (2 ^ 64 - 1 - d) / b < v → None ≡ step_digit b n v d
  unfolding step_digit
  too_large p h l o =
      let big = (div-lt_iff_lt-mul p).0 o in
      rw (lt-ltb d b h, le-ltb (v * b + d) (2 ^ 64) (omega arith))

  pub fitting : 0 < b → d ≤ 2 ^ 64 - 1 → v ≤ (2 ^ 64 - 1 - d) / b → v * b + d < 2 ^ 64
  fitting p l o =
      let small = (le-div_iff_mul-le p).0 o in
      omega arith

  pub one_digit : (k : ℕ) → 0 < b → d < b → d ≤ 2 ^ 64 - 1 → v ≤ (2 ^ 64 - 1 - d) / b → k ≡ min (n + 1) 17 → digits k (v * b + d) ≡ step_digit b n v d
  unfolding step_digit
  one_digit k p h l o e = rw (e, lt-ltb d b h, lt-ltb (v * b + d) (2 ^ 64) (fitting p l o))

pub step_is : (b : ℕ) (o : Option Run) (r : Run) (c d : ℕ) (x : Option Run) → o ≡ Some r → d ≡ digit_of c → x ≡ step_digit b r.count r.number d → x ≡ step_run b o c
step_is b o r c d x k e h = rw k (h ∙ ap (step_digit b r.count r.number) e)

-- ---- a word with one byte more
all_snoc : (b c : ℕ) (w : List ℕ) → only_digits b (w ++ (c ∷ [])) ≡ (only_digits b w && ltb (digit_of c) b)
unfolding only_digits
all_snoc b c [] = and_comm (ltb (digit_of c) b) true
all_snoc b c (a ∷ w) = ap (λ (t : Bool). ltb (digit_of a) b && t) (all_snoc b c w) ∙ sym (and_assoc (ltb (digit_of a) b) (only_digits b w) (ltb (digit_of c) b))

length_snoc : (c : ℕ) (w : List ℕ) → length (w ++ (c ∷ [])) ≡ length w + 1
length_snoc c w = length-append w (c ∷ [])

-- min (n + 1) 17, of a number or of the number that stands for it
more : (n : ℕ) → min (n + 1) 17 ≡ min (min n 17 + 1) 17
more n = go (ltb n 17) refl
  where
    go : (t : Bool) → ltb n 17 ≡ t → min (n + 1) 17 ≡ min (min n 17 + 1) 17
    go true e =
        let l = ltb-true n 17 e in
        ap (λ (k : ℕ). min (k + 1) 17) (sym (min-eq_left {n = n} {m = 17} (omega arith)))
    go false e =
        let l = ltb-false n 17 e in
        min-eq_right {n = 17} {m = n + 1} (omega arith) ∙ ap (λ (k : ℕ). min (k + 1) 17) (sym (min-eq_right {n = 17} {m = n} l))

-- what the run was picks what it is
module _ (b c : ℕ) (w : List ℕ) (p : 0 < b) where
  -- a number that has passed 2 ^ 64 stays past it
  stays : 2 ^ 64 ≤ numeral b w → 2 ^ 64 ≤ numeral b w * b + digit_of c
  stays h =
      let grown : numeral b w * 1 ≤ numeral b w * b = mul-le-mul_left (numeral b w) p in
      omega arith

  pub run_next : run_of b (w ++ (c ∷ [])) ≡ step_run b (run_of b w) c
  unfolding step_digit
  run_next =
      rw (all_snoc b c w, numeral_snoc b 0 c w, length_snoc c w) (go (only_digits b w) (ltb (numeral b w) (2 ^ 64)) refl)
    where
      go : (s t : Bool) → ltb (numeral b w) (2 ^ 64) ≡ t
          → cond (s && ltb (digit_of c) b && ltb (numeral b w * b + digit_of c) (2 ^ 64)) (digits (min (length w + 1) 17) (numeral b w * b + digit_of c)) None
          ≡ step_run b (cond (s && t) (digits (min (length w) 17) (numeral b w)) None) c
      go true true e = rw (more (length w))
      go true false e = rw (le-ltb (numeral b w * b + digit_of c) (2 ^ 64) (stays (ltb-false (numeral b w) (2 ^ 64) e)), and-false (ltb (digit_of c) b))
      go false t e = refl

-- ---- the loop that reads a word: r is what its first k bytes come to, and s what one byte more comes to
pub come_next : (b : ℕ) (w : List ℕ) (r s : Option Run) (k : ℕ) → 0 < b → k < length w → r ≡ run_of b (take k w) → s ≡ step_run b r (get_or w k 0) → s ≡ run_of b (take (k + 1) w)
come_next b w r s k p h q e =
    e ∙ ap (λ (x : Option Run). step_run b x (get_or w k 0)) q ∙ sym (run_next b (get_or w k 0) (take k w) p)
    ∙ ap (λ (x : List ℕ). run_of b x) (sym (take-suc w k 0 h) ∙ ap (λ (j : ℕ). take j w) (sym (add-one k)))

-- ---- a word that has ended
some : (n : ℕ) → ltb 0 (min n 17) ≡ ltb 0 n
some n = go (ltb 0 n) refl
  where
    go : (t : Bool) → ltb 0 n ≡ t → ltb 0 (min n 17) ≡ t
    go true e = lt-ltb 0 (min n 17) (le-min {k = 1} {a = n} {b = 17} (ltb-true 0 n e) (lit≤ tt))
    go false e = le-ltb 0 (min n 17) (le_trans (min-le_left n 17) (ltb-false 0 n e))

pub decimal_whole : (w : List ℕ) → decimal_done (run_of 10 w) ≡ decimal_of w
decimal_whole w = go (only_digits 10 w) (ltb (numeral 10 w) (2 ^ 64))
  where
    go : (s t : Bool) → decimal_done (cond (s && t) (digits (min (length w) 17) (numeral 10 w)) None) ≡ cond (s && ltb 0 (length w) && t) (Some (numeral 10 w)) None
    go true true = rw (some (length w), and-true (ltb 0 (length w)))
    go true false = rw (and-false (ltb 0 (length w)))
    go false t = refl

sixteen : (n : ℕ) → eqb (min n 17) 16 ≡ eqb n 16
sixteen n = go (ltb n 17) refl
  where
    go : (t : Bool) → ltb n 17 ≡ t → eqb (min n 17) 16 ≡ eqb n 16
    go true e =
        let l = ltb-true n 17 e in
        ap (λ (k : ℕ). eqb k 16) (min-eq_left {n = n} {m = 17} (omega arith))
    go false e =
        let l = ltb-false n 17 e in
        ap (λ (k : ℕ). eqb k 16) (min-eq_right {n = 17} {m = n} l) ∙ sym (ne_eqb n 16 (λ q. omega arith))

-- so many digits are below that power of the base
below : (b v : ℕ) (w : List ℕ) → only_digits b w ≡ true → numeral_from b v w < (v + 1) * b ^ length w
unfolding only_digits numeral_from
below b v [] h = rw (pow-zero b, mul-one (v + 1)) (omega arith)
below b v (c ∷ w) h =
    let t = both (ltb (digit_of c) b) (only_digits b w) h in
    let l = ltb-true (digit_of c) b t.0 in
    let m : v * b + digit_of c + 1 ≤ (v + 1) * b = rw (add-mul v 1 b) (omega arith) in
    lt_of_lt_of_le (below b (v * b + digit_of c) w t.1)
    (le_trans (mul-le-mul_right (b ^ length w) m) (le_of_eq (mul_assoc (v + 1) b (b ^ length w) ∙ ap (λ (p : ℕ). (v + 1) * p) (sym (pow-succ' b (length w))))))
  where
    both : (s t : Bool) → (s && t) ≡ true → (s ≡ true) × (t ≡ true)
    both true t e = (refl, e)
    both false t e = (e, absurd (subst T (sym e) tt))

pub hex_whole : (w : List ℕ) → hex_done (run_of 16 w) ≡ hex_of w
hex_whole w = go (only_digits 16 w) (ltb (numeral 16 w) (2 ^ 64)) refl refl
  where
    go : (s t : Bool) → only_digits 16 w ≡ s → ltb (numeral 16 w) (2 ^ 64) ≡ t
        → hex_done (cond (s && t) (digits (min (length w) 17) (numeral 16 w)) None) ≡ cond (s && eqb (length w) 16) (Some (numeral 16 w)) None
    go true true e f = rw (sixteen (length w))
    go true false e f = rw (ne_eqb (length w) 16 (λ q. absurd (not-le_of_lt (subst (λ (k : ℕ). numeral 16 w < (0 + 1) * 16 ^ k) q (below 16 0 w e)) (ltb-false (numeral 16 w) (2 ^ 64) f))))
    go false t e f = refl

-- ---- what was put is read back
all_digits : (k n : ℕ) → only_digits 16 (digits_of k n) ≡ true
unfolding only_digits digits_of
all_digits zero n = refl
all_digits (suc k) n =
    let d = n / 16 ^ k % 16 in
    rw (glyph_back d (mod-lt (n / 16 ^ k) (lit< tt)), lt-ltb d 16 (mod-lt (n / 16 ^ k) (lit< tt))) (all_digits k n)

-- the 16 hex digits of a number below 2 ^ 64 are a bit pattern, and that number's
pub hex_back : (n : ℕ) → n < 2 ^ 64 → hex_of (hex_digits n) ≡ Some n
hex_back n h = rw (all_digits 16 n, length_digits 16 n, numeral_digits 16 n 0, mod-eq_of_lt {n = n} {m = 2 ^ 64} h) (ap Some (omega arith))
