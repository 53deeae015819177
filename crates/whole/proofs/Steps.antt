-- What `over` and `near` work out: the whole part or one more, by a test. Assumes nothing.
use mathlib.Core.Bool.{Bool, true, false, cond, true≢false}
use mathlib.Core.Logic.{inl}
use mathlib.Core.Path.{◌≡◌, refl, sym, ap, ◌∙◌}
use Prim.Native.Nat.{ℕ, zero, suc, ◌+◌, ◌*◌, ◌/◌, ◌%◌, ◌^◌, ◌≤◌, ◌<◌}
use native.Mathlib.Nat.{zero-lt-suc, zero-mul, mul-pos}
use native.Mathlib.Omega.{arith}
use borrow.Author.Tests.{le-ltb, eqb-true, eqb-false, leb-true, leb-false, lt-leb}
use lib.Dec.{T, not_T, eqb, leb}
use lib.IntN.{ℤ, negsuc}
use lib.Ieee.{Float, nan, inf, fin, binary64, low, up, down, fits, sum, add, sub, lt, eq, le, of_int, of_bits}
use lib.Ieee.Bits.{is_true, is_false}
use lib.Ieee.Exact.{HasValue}
use lib.Ieee.Fits.{down_pos}
use lib.Ieee.Scale.{round_same}
use Rattle.exact.specs.Doubles.{count, zero_f, one_f, half_f, ◌+f◌, ◌-f◌}
use Rattle.exact.specs.Exact.{mag, exact, Number}
use Rattle.exact.specs.Whole.{Whole, signed, ◌⊖◌, Same, Less, AtMost}
use Rattle.exact.proofs.Order.{lt_exact, le_exact}
use Rattle.whole.specs.Rounded.{whole_f, made_whole, part_div, over_div, near_div, trunc_of, ceil_of, round_of}
use Rattle.whole.proofs.Held.{whole_back, next_value, whole_f_value}
use Rattle.whole.proofs.Divisions.{near_is}
use Rattle.whole.proofs.Fraction.{sub_part}
use Rattle.whole.proofs.Units.{shared, ones_le, ones_lt, half_under, half_over, whole_exact, whole_number}
use Rattle.whole.proofs.Sizes.{NotBelow, no_number, endless, a_size, minus_zero, not_below, no_left}

-- y + 1.0, of a whole number y, is the next one
plus_one : (y : Float) (n : ℕ) → HasValue y false n 1 → y +f one_f ≡ count (suc n)
unfolding add sum of_bits of_int
plus_one nan n h = absurd h
plus_one (inf s) n h = absurd h
plus_one (fin true m e) n h = absurd (true≢false h.0)
plus_one (fin false m e) n h =
    round_same binary64 false (m * up e * 1 + 1 * down e) (down e * 1) (suc n) 1 (mul-pos (down_pos e) (zero-lt-suc 0)) (zero-lt-suc 0) (omega (arith, h.1))

more : (n : ℕ) → HasValue (count n) false n 1 → (b : Bool) → cond b (count n +f one_f) (count n) ≡ count (cond b (suc n) n)
more n h true = plus_one (count n) n h
more n h false = refl

-- a test of x and its whole part tells which: of what is no size it is false
record Tells (how : Bool → ℕ → ℕ → ℕ) (test : Float → Float → Bool) : Type 0 where
  no_number : test nan nan ≡ false
  endless : test (inf false) (inf false) ≡ false
  a_size : (m : ℕ) (e : ℤ) → T (fits binary64 (fin false m e))
      → how false (m * up e) (down e) ≡ cond (test (fin false m e) (count (m * up e / down e))) (suc (m * up e / down e)) (m * up e / down e)
  minus_zero : (e : ℤ) → T (fits binary64 (fin true zero e)) → test (fin true zero e) (whole_f true (zero * up e / down e)) ≡ false
  no_more : (e : ℤ) → how true (zero * up e) (down e) ≡ zero * up e / down e

told : (how : Bool → ℕ → ℕ → ℕ) (test : Float → Float → Bool) → Tells how test → {x : Float} → NotBelow x → T (fits binary64 x)
    → cond (test x (trunc_of x)) (trunc_of x +f one_f) (trunc_of x) ≡ made_whole how x
unfolding made_whole
told how test w no_number t = rw w.no_number
told how test w endless t = rw w.endless
told how test w (a_size m e) t =
    let n = m * up e / down e in
    more n (whole_f_value false n (next_value binary64 false m e n t (inl refl))) (test (fin false m e) (count n)) ∙ ap count (sym (w.a_size m e t))
told how test w (minus_zero e) t = rw (w.minus_zero e t, w.no_more e)

-- ---- `over`: whether the whole part is below x
lt_itself : (x : Float) → lt x x ≡ false
unfolding lt
lt_itself nan = refl
lt_itself (inf true) = refl
lt_itself (inf false) = refl
lt_itself (fin false m e) = le-ltb (m * up e * down e) (m * up e * down e) (omega arith)
lt_itself (fin true m e) = le-ltb (m * up e * down e) (m * up e * down e) (omega arith)

below_whole : (s : Bool) (m : ℕ) (e : ℤ) → T (fits binary64 (fin s m e)) → m * up e % down e ≡ 0 → lt (whole_f s (m * up e / down e)) (fin s m e) ≡ false
below_whole s m e t h = rw (whole_back s m e t h) (lt_itself (fin s m e))

below_size : (m : ℕ) (e : ℤ) → T (fits binary64 (fin false m e)) → 0 < m * up e % down e → T (lt (count (m * up e / down e)) (fin false m e))
unfolding exact
below_size m e t h =
    let n = m * up e / down e in
    let v = next_value binary64 false m e n t (inl refl) in
    (lt_exact binary64 (count n) (fin false m e) (whole_number false n v) (tt, t)).1
    (rw (whole_exact false n v) (plain (n * 2 ^ low binary64) (mag binary64 (fin false m e)) (ones_lt (shared binary64 false m e t) h)))
  where
    plain : (a b : ℕ) → a < b → Less (a, 0) (b, 0)
    plain a b h = omega arith

over_tells : Tells (λ s a d. cond s (part_div a d) (over_div a d)) (λ x y. lt y x)
over_tells =
    record {
      no_number = lt_itself nan;
      endless = lt_itself (inf false);
      a_size = λ m e t. size m e t (eqb (m * up e % down e) 0) refl;
      minus_zero = λ e t. below_whole true zero e t (no_left zero e (zero-mul (up e)));
      no_more = λ e. refl;
    }
  where
    size : (m : ℕ) (e : ℤ) → T (fits binary64 (fin false m e)) → (b : Bool) → eqb (m * up e % down e) 0 ≡ b
        → cond b (m * up e / down e) (suc (m * up e / down e)) ≡ cond (lt (count (m * up e / down e)) (fin false m e)) (suc (m * up e / down e)) (m * up e / down e)
    size m e t true h = rw (below_whole false m e t (eqb-true (m * up e % down e) 0 h))
    size m e t false h =
        let z = eqb-false (m * up e % down e) 0 h in
        rw (is_true (lt (count (m * up e / down e)) (fin false m e)) (below_size m e t (omega arith)))

-- ---- `near`: whether a half or more is left, which is a question of exact values
half_number : Number binary64 half_f
unfolding of_bits fits
half_number = (tt, tt)

-- w is what M units are beside K of them, and H is half of U
less_than_half : (s : Bool) (H U M K : ℕ) (w : Whole) → H * 2 ≡ U → K ≤ M → 2 * M < U + 2 * K → Same w (signed s M ⊖ signed s K) → AtMost (H, 0) w → ⊥
less_than_half false H U M K w e l h k a = omega arith
less_than_half true H U M K w e l h k a = omega arith

half_at_least : (H U M K : ℕ) (w : Whole) → H * 2 ≡ U → U + 2 * K ≤ 2 * M → Same w ((M, 0) ⊖ (K, 0)) → AtMost (H, 0) w
half_at_least H U M K w e h k = omega arith

half_not : (s : Bool) (m : ℕ) (e : ℤ) → T (fits binary64 (fin s m e)) → 2 * (m * up e % down e) < down e → le half_f (fin s m e -f whole_f s (m * up e / down e)) ≡ false
unfolding exact of_bits
half_not s m e t l =
    let z = fin s m e -f whole_f s (m * up e / down e) in
    let w = sub_part s m e t in
    let o = shared binary64 s m e t in
    is_false (le half_f z) (not_T (le half_f z) (λ h.
    less_than_half s (mag binary64 (fin false 1 (negsuc 0))) (2 ^ low binary64) (mag binary64 (fin s m e)) (m * up e / down e * 2 ^ low binary64) (exact binary64 z) refl
    (ones_le o) (half_under o l) w.1 ((le_exact binary64 half_f z half_number w.0).0 h)))

half_yes : (m : ℕ) (e : ℤ) → T (fits binary64 (fin false m e)) → down e ≤ 2 * (m * up e % down e) → le half_f (fin false m e -f count (m * up e / down e)) ≡ true
unfolding exact of_bits
half_yes m e t l =
    let z = fin false m e -f count (m * up e / down e) in
    let w = sub_part false m e t in
    is_true (le half_f z) ((le_exact binary64 half_f z half_number w.0).1
    (half_at_least (mag binary64 (fin false 1 (negsuc 0))) (2 ^ low binary64) (mag binary64 (fin false m e)) (m * up e / down e * 2 ^ low binary64) (exact binary64 z) refl
    (half_over (shared binary64 false m e t) l) w.1))

near_tells : Tells (λ s a d. near_div a d) (λ x y. le half_f (x -f y))
unfolding sub add le lt eq of_bits
near_tells =
    record {
      no_number = refl;
      endless = refl;
      a_size = λ m e t. near_is (m * up e) (down e) (down_pos e) ∙ size m e t (leb (down e) (2 * (m * up e % down e))) refl;
      minus_zero = λ e t. half_not true zero e t (rw (no_left zero e (zero-mul (up e))) (down_pos e));
      no_more = λ e. near_is (zero * up e) (down e) (down_pos e) ∙ rw (no_left zero e (zero-mul (up e)), lt-leb (down e) 0 (down_pos e));
    }
  where
    size : (m : ℕ) (e : ℤ) → T (fits binary64 (fin false m e)) → (b : Bool) → leb (down e) (2 * (m * up e % down e)) ≡ b
        → cond b (suc (m * up e / down e)) (m * up e / down e) ≡ cond (le half_f (fin false m e -f count (m * up e / down e))) (suc (m * up e / down e)) (m * up e / down e)
    size m e t true h = rw (half_yes m e t (leb-true (down e) (2 * (m * up e % down e)) h))
    size m e t false h = rw (half_not false m e t (leb-false (down e) (2 * (m * up e % down e)) h))

-- ---- what the code answers, by what its test says: y is the whole part of x
module _ (x y : Float) (t : T (fits binary64 x)) (p : lt x zero_f ≡ false) (i : y ≡ trunc_of x) where
  pub over_made : (b : Bool) → lt y x ≡ b → cond b (y +f one_f) y ≡ ceil_of x
  over_made b h = rw (← h, i) (told _ _ over_tells (not_below x p) t)

  pub near_made : (b : Bool) → le half_f (x -f y) ≡ b → cond b (y +f one_f) y ≡ round_of x
  near_made b h = rw (← h, i) (told _ _ near_tells (not_below x p) t)
