-- The output delay: L*r1/2 is above 0 and at most 32,768 for every L from 1 to 256 and every ratio in use, so its truncation is a whole number of frames, and the cast gives it. Assumes nothing.
use Rattle.std.proofs.Common.{◌≡◌, ℕ, ◌+◌, ◌-◌, ◌*◌, ◌/◌, ◌^◌, ◌<◌, ◌≤◌, Bool, true, false, ◌&&◌, ◌||◌, T, eqb, ltb, pos, negsuc, sym, refl, ap, ◌∙◌, subst, le_trans, le_of_eq, le_of_lt, div-lt_iff_lt-mul, arith, lit<, lit≤, le→leb, lt→ltb, ltb-true, eqb-true}
use mathlib.Core.Bool.{and-eq-true_iff}
use native.Mathlib.Nat.{min-eq_left}
use denote.Floats.{passes}
use lib.Ieee.{Float, nan, inf, fin, binary64, up, down, round, mul, div, le, lt, of_int, of_bits, to_unsigned, in_float}
use lib.Ieee.Back.{round_whole, unsigned_back}
use lib.Ieee.Exact.{HasValue}
use lib.Ieee.Fits.{down_pos}
use lib.Ieee.Order.{le_of_values, round_mono}
use lib.Ieee.Positive.{positive, positive_of_value, le→cross, between, mul_mono}
use Rattle.exact.specs.Doubles.{◌*f◌, ◌/f◌, count, two_f}
use Rattle.whole.specs.Rounded.{made_whole, trunc_of}
use Rattle.sizes.specs.Bounds.{least_f, most_f, is_ratio}
use Rattle.sizes.specs.Sizes.{delay_of}

-- ---- an x above 0 and at most 2 ^ 15
abbrev Small : Float → Type 0
Small x = T (positive x) × T (le x (fin false 1 (pos 15)))

at_most : (a b : ℕ) (x y : Bool) → ltb a b ≡ x → eqb a b ≡ y → T (x || (y && true)) → a ≤ b
at_most a b true y p q t = le_of_lt (ltb-true a b p)
at_most a b false true p q t = le_of_eq (eqb-true a b q)
at_most a b false false p q t = absurd t

-- what the cast asks
pub small_asks : (x : Float) → Small x → T (lt (fin true 1 (pos 0)) x) × T (lt x (fin false 1 (pos 64)))
unfolding lt le
small_asks nan t = absurd t.0
small_asks (inf s) t = absurd t.0
small_asks (fin true m e) t = absurd t.0
small_asks (fin false m e) t =
    let a : m * up e * 1 ≤ 32768 * down e = at_most (m * up e * 1) (32768 * down e) _ _ refl refl t.1 in
    (lt→ltb 0 (1 * down e + m * up e * 1) (omega (arith, down_pos e)), lt→ltb (m * up e * 1) (2 ^ 64 * down e) (omega (arith, down_pos e)))

-- the cast gives the whole number that the truncation is
small_cut : (x : Float) → Small x → (to_unsigned 64 (trunc_of x) ≡ to_unsigned 64 x) × (count (to_unsigned 64 x) ≡ trunc_of x)
unfolding to_unsigned made_whole in_float le
small_cut nan t = absurd t.0
small_cut (inf s) t = absurd t.0
small_cut (fin true m e) t = absurd t.0
small_cut (fin false m e) t =
    let n = m * up e / down e in
    let a : m * up e * 1 ≤ 32768 * down e = at_most (m * up e * 1) (32768 * down e) _ _ refl refl t.1 in
    let b : n < 32769 = (div-lt_iff_lt-mul (down_pos e)).1 (omega (arith, down_pos e)) in
    let cut = min-eq_left {n = n} {m = 2 ^ 64 - 1} (omega arith) in
    ((unsigned_back binary64 64 n (le→leb n (2 ^ 53) (omega arith)) (omega arith)).1 ∙ sym cut, ap count cut)

-- ---- L*r1/2
-- half of what is from 2 ^ -8 to 2 ^ 16
least_is : round binary64 false 1 512 ≡ fin false 1 (negsuc 8)
unfolding round
least_is = refl

most_is : round binary64 false 32768 1 ≡ fin false 1 (pos 15)
unfolding round
most_is = refl

half_small : (y : Float) → T (positive y) → T (le (fin false 1 (negsuc 7)) y) → T (le y (fin false 1 (pos 16))) → Small (y /f two_f)
unfolding div of_bits
half_small nan p l h = absurd p
half_small (inf s) p l h = absurd p
half_small (fin true m e) p l h = absurd p
half_small (fin false m e) p l h =
    let x = round binary64 false (m * up e * 1) (1 * 2 * down e) in
    let a : 1 * 1 * down e ≤ m * up e * 256 = le→cross (fin false 1 (negsuc 7)) (fin false m e) tt p l in
    let b : m * up e * 1 ≤ 65536 * down e = le→cross (fin false m e) (fin false 1 (pos 16)) p tt h in
    let lo = subst (λ (z : Float). T (le z x)) least_is (round_mono binary64 1 512 (m * up e * 1) (1 * 2 * down e) (lit< tt) (omega (arith, down_pos e)) (omega arith)) in
    let hi = subst (λ (z : Float). T (le x z)) most_is (round_mono binary64 (m * up e * 1) (1 * 2 * down e) 32768 1 (omega (arith, down_pos e)) (lit< tt) (omega arith)) in
    (between (fin false 1 (negsuc 8)) x (fin false 1 (pos 15)) tt tt lo hi, hi)

value : (n : ℕ) → n ≤ 256 → HasValue (count n) false n 1
unfolding of_int
value n h = round_whole binary64 false n (le_trans h (lit≤ tt))

module _ (l : ℕ) (r : Float) (some : 1 ≤ l) (few : l ≤ 256) (ratio : is_ratio r ≡ true) where
  pub delay_small : Small (count l *f r /f two_f)
  unfolding mul of_int of_bits
  delay_small =
      let k = (and-eq-true_iff (le least_f r) (le r most_f)).0 ratio in
      let lo = passes (le least_f r) k.0 in
      let hi = passes (le r most_f) k.1 in
      let v = value l few in
      let pl = positive_of_value (count l) l 1 v some in
      let pr = between least_f r most_f tt tt lo hi in
      let one = le_of_values (count 1) (count l) 1 1 l 1 (lit< tt) (lit< tt) (value 1 (lit≤ tt)) v (omega arith) in
      let all = le_of_values (count l) (count 256) l 1 256 1 (lit< tt) (lit< tt) v (value 256 (lit≤ tt)) (omega arith) in
      let low = mul_mono binary64 (count 1) (count l) least_f r tt pl tt pr one lo in
      let high = mul_mono binary64 (count l) (count 256) r most_f pl tt pr tt all hi in
      half_small (count l *f r) (between (count 1 *f least_f) (count l *f r) (count 256 *f most_f) tt tt low high) low high

  -- what the code casts is the delay
  pub delay_cast : to_unsigned 64 (count l *f r /f two_f) ≡ delay_of l r
  unfolding delay_of
  delay_cast = sym (small_cut (count l *f r /f two_f) delay_small).0

  -- the delay, as a double, is L*r1/2 truncated
  pub delay_is : count (delay_of l r) ≡ trunc_of (count l *f r /f two_f)
  delay_is = ap count (sym delay_cast) ∙ (small_cut (count l *f r /f two_f) delay_small).1
