-- The sign of x: the floor of -x is minus the ceiling of x, and truncation and rounding take the sign along. Assumes nothing.
use mathlib.Core.Bool.{Bool, true, false, not, cond, false≢true}
use mathlib.Core.Path.{◌≡◌, refl, sym, ap, ◌∙◌}
use Prim.Native.Nat.{ℕ, ◌*◌, ◌<◌}
use native.Mathlib.Nat.{zero-mul, zero-mod}
use native.Mathlib.Omega.{arith}
use borrow.Author.Tests.{ltb-true, le-ltb}
use lib.Ieee.{Float, nan, inf, fin, up, down, neg, lt, of_bits}
use Rattle.exact.specs.Doubles.{count, zero_f}
use Rattle.whole.specs.Rounded.{whole_f, made_whole, part_div, over_div, floor_of, ceil_of, trunc_of, round_of}
use Rattle.whole.proofs.Sizes.{NotBelow, no_number, endless, a_size, minus_zero, not_below}

pub neg_neg : (x : Float) → neg (neg x) ≡ x
unfolding neg
neg_neg nan = refl
neg_neg (inf true) = refl
neg_neg (inf false) = refl
neg_neg (fin true m e) = refl
neg_neg (fin false m e) = refl

pub whole_f_neg : (s : Bool) (n : ℕ) → whole_f (not s) n ≡ neg (whole_f s n)
whole_f_neg true n = sym (neg_neg (count n))
whole_f_neg false n = refl

made_neg : (how that : Bool → ℕ → ℕ → ℕ) → ((s : Bool) (a d : ℕ) → how (not s) a d ≡ that s a d) → (x : Float) → made_whole how (neg x) ≡ neg (made_whole that x)
unfolding made_whole neg
made_neg how that h nan = refl
made_neg how that h (inf s) = refl
made_neg how that h (fin s m e) = ap (whole_f (not s)) (h s (m * up e) (down e)) ∙ whole_f_neg s (that s (m * up e) (down e))

other_way : {A : Type 0} (s : Bool) (p q : A) → cond (not s) p q ≡ cond s q p
other_way true p q = refl
other_way false p q = refl

pub floor_neg : (x : Float) → floor_of (neg x) ≡ neg (ceil_of x)
floor_neg = made_neg _ _ (λ s a d. other_way s (over_div a d) (part_div a d))

pub ceil_neg : (x : Float) → ceil_of (neg x) ≡ neg (floor_of x)
ceil_neg = made_neg _ _ (λ s a d. other_way s (part_div a d) (over_div a d))

pub trunc_neg : (x : Float) → trunc_of (neg x) ≡ neg (trunc_of x)
trunc_neg = made_neg _ _ (λ s a d. refl)

pub round_neg : (x : Float) → round_of (neg x) ≡ neg (round_of x)
round_neg = made_neg _ _ (λ s a d. refl)

-- of an x below 0 the size is not
pub size_of : (x : Float) → lt x zero_f ≡ true → lt (neg x) zero_f ≡ false
unfolding lt neg of_bits
size_of nan h = absurd (false≢true h)
size_of (inf true) h = refl
size_of (inf false) h = absurd (false≢true h)
size_of (fin true m e) h = rw zero-mul (le-ltb (m * up e * 1) 0 (omega arith))
size_of (fin false m e) h = let l : m * up e * 1 < 0 = simp zero-mul at (ltb-true (m * up e * 1) (0 * down e) h) in absurd (omega arith)

-- back from the size: r is what was made of -x
pub put_back : (r y : Float) → r ≡ neg y → neg r ≡ y
put_back r y p = ap neg p ∙ neg_neg y

-- of an x that is not below 0 the floor is the whole part
pub floor_size : (x : Float) → lt x zero_f ≡ false → trunc_of x ≡ floor_of x
unfolding made_whole
floor_size x h = go (not_below x h)
  where
    go : {x : Float} → NotBelow x → trunc_of x ≡ floor_of x
    go no_number = refl
    go endless = refl
    go (a_size m e) = refl
    go (minus_zero e) = rw (zero-mul (up e), zero-mod (down e))
