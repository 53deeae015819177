-- The floor and the nearest of a number is a whole number with a sign, at most the power of two that the number is below; a bound on it. Assumes nothing.
use mathlib.Core.Bool.{Bool, true, false, cond}
use mathlib.Core.Path.{refl, subst}
use Prim.Native.Nat.{ℕ, ◌+◌, ◌*◌, ◌^◌, ◌<◌}
use native.Mathlib.Nat.{lt_of_mul-lt-mul_right, le_of_lt}
use native.Mathlib.Omega.{arith}
use lib.Ieee.{Float, nan, inf, fin, binary64, low, up, down}
use lib.Ieee.Fits.{down_pos}
use lib.Pow.{pow-add}
use Rattle.exact.specs.Whole.{Whole, signed, Less, AtMost, Below}
use Rattle.exact.specs.Exact.{mag, exact, Number}
use Rattle.exact.proofs.Rounding.{signed_below}
use Rattle.whole.specs.Rounded.{made_whole, floor_of, round_of, part_div, over_div}
use Rattle.whole.specs.Numbers.{Counted}
use Rattle.whole.proofs.Held.{Next, next_value}
use Rattle.whole.proofs.Divisions.{part_next, over_next, near_next, next_upto}
use Rattle.whole.proofs.Units.{shared, ones_under, whole_exact, whole_number}

-- ---- the size
made_counted : (how : Bool → ℕ → ℕ → ℕ) → ((s : Bool) (a d : ℕ) → 0 < d → Next a d (how s a d)) → (k : ℕ) (x : Float) → Number binary64 x → Below (2 ^ (k + low binary64)) (exact binary64 x) → Counted k (made_whole how x)
unfolding made_whole exact
made_counted how next k nan t h = absurd t.0
made_counted how next k (inf s) t h = absurd t.0
made_counted how next k (fin s m e) t h =
    let n = how s (m * up e) (down e) in
    let i = next s (m * up e) (down e) (down_pos e) in
    let v = next_value binary64 s m e n t.1 i in
    let b : mag binary64 (fin s m e) < 2 ^ k * 2 ^ low binary64 = subst (λ (z : ℕ). mag binary64 (fin s m e) < z) (pow-add 2 k (low binary64)) (signed_below s (mag binary64 (fin s m e)) (2 ^ (k + low binary64)) h) in
    record {
      sign = s;
      ones = n;
      is = refl;
      number = whole_number s n v;
      value = whole_exact s n v;
      at_most = next_upto (m * up e) (down e) (2 ^ k) n (down_pos e) i (le_of_lt (ones_under (shared binary64 s m e t.1) (2 ^ k) b));
    }

either : (P : ℕ → Type 0) (s : Bool) (p q : ℕ) → P p → P q → P (cond s p q)
either P true p q h k = h
either P false p q h k = k

pub floor_counted : (k : ℕ) (x : Float) → Number binary64 x → Below (2 ^ (k + low binary64)) (exact binary64 x) → Counted k (floor_of x)
floor_counted = made_counted _ (λ s a d h. either (Next a d) s (over_div a d) (part_div a d) (over_next a d) (part_next a d))

pub round_counted : (k : ℕ) (x : Float) → Number binary64 x → Below (2 ^ (k + low binary64)) (exact binary64 x) → Counted k (round_of x)
round_counted = made_counted _ (λ s a d h. near_next a d h)

-- ---- a bound on the exact value is one on the count
-- a whole number that is not below 0 and below b ones
pub counted_below : (k b : ℕ) (y : Float) (c : Counted k y) → AtMost (0, 0) (exact binary64 y) → Less (exact binary64 y) (b * 2 ^ low binary64, 0) → c.ones < b
counted_below k b y c h l = go c.sign c.ones b (2 ^ low binary64) (subst (AtMost (0, 0)) c.value h) (subst (λ (v : Whole). Less v (b * 2 ^ low binary64, 0)) c.value l)
  where
    go : (s : Bool) (n b U : ℕ) → AtMost (0, 0) (signed s (n * U)) → Less (signed s (n * U)) (b * U, 0) → n < b
    go false n b U h l = lt_of_mul-lt-mul_right U {m = n} {n = b} (omega arith)
    go true n b U h l = lt_of_mul-lt-mul_right U {m = n} {n = b} (omega arith)
