-- An index has a place just where it is a number from -shift on and below last - shift + 1: the place is its floor + shift, and lies in 0..last. Assumes nothing.
use mathlib.Core.Bool.{Bool, true, false, ◌&&◌, true≢false, false≢true, and-eq-true_iff}
use mathlib.Core.Logic.{◌↔◌}
use mathlib.Core.Path.{◌≡◌, refl, sym, ap, ◌∙◌, subst}
use Prim.Native.Nat.{ℕ, ◌+◌, ◌-◌, ◌*◌, ◌/◌, ◌^◌, ◌≤◌, ◌<◌}
use native.Mathlib.Nat.{mul-one, mul-div_cancel, mul-le-mul_right, lt_of_mul-lt-mul_right, le_of_mul-le-mul_right}
use native.Mathlib.Omega.{arith}
use borrow.Author.Tests.{leb-true, le-leb}
use lib.Dec.{T, leb}
use lib.IntN.{ℤ}
use lib.Ieee.{Float, nan, inf, fin, binary64, low, up, down, fits}
use lib.Ieee.Exact.{HasValue}
use lib.Ieee.Fits.{down_pos}
use lib.Pow.{pow_pos}
use Rattle.exact.specs.Whole.{Whole, ◌⊕◌, ◌⊙◌, Less, AtMost}
use Rattle.exact.specs.Exact.{exact, Number}
use Rattle.whole.specs.Rounded.{whole_f, made_whole, part_div, over_div, floor_of}
use Rattle.whole.specs.Numbers.{Greatest}
use Rattle.whole.proofs.Held.{next_value, whole_f_value}
use Rattle.whole.proofs.Divisions.{part_next, over_next}
use Rattle.whole.proofs.Units.{whole_exact}
use Rattle.whole.proofs.Values.{floor_greatest}
use Rattle.path.specs.Places.{place_at, within, place_from, place_of, is_at}

-- ---- what a place says of a whole number n with a sign
pub at_within : (b : Bool) (s : ℕ) (x : Float) → is_at (within b (place_at s x)) ≡ b
at_within true s x = refl
at_within false s x = refl

cut_is : (m : ℕ) (e : ℤ) (n : ℕ) → m * up e * 1 ≡ n * down e → m * up e / down e ≡ n
cut_is m e n h = ap (λ (a : ℕ). a / down e) (sym (mul-one (m * up e)) ∙ h) ∙ mul-div_cancel n (down_pos e)

-- the place of a whole number n with either sign
pub place_plain : (shift last : ℕ) (y frac : Float) (n : ℕ) → HasValue y false n 1 → place_from shift last y frac ≡ within (leb (n + shift) last) (place_at (n + shift) frac)
unfolding place_from
place_plain shift last nan frac n v = absurd v
place_plain shift last (inf s) frac n v = absurd v
place_plain shift last (fin true m e) frac n v = absurd (true≢false v.0)
place_plain shift last (fin false m e) frac n v = ap (λ (j : ℕ). within (leb (j + shift) last) (place_at (j + shift) frac)) (cut_is m e n v.1)

pub place_minus : (shift last : ℕ) (y frac : Float) (n : ℕ) → HasValue y true n 1 → place_from shift last y frac ≡ within (leb n shift && leb (shift - n) last) (place_at (shift - n) frac)
unfolding place_from
place_minus shift last nan frac n v = absurd v
place_minus shift last (inf s) frac n v = absurd v
place_minus shift last (fin false m e) frac n v = absurd (false≢true v.0)
place_minus shift last (fin true m e) frac n v = ap (λ (j : ℕ). within (leb j shift && leb (shift - j) last) (place_at (shift - j) frac)) (cut_is m e n v.1)

at_plain : (shift last : ℕ) (y frac : Float) (n : ℕ) → HasValue y false n 1 → is_at (place_from shift last y frac) ≡ leb (n + shift) last
at_plain shift last y frac n v = ap is_at (place_plain shift last y frac n v) ∙ at_within (leb (n + shift) last) (n + shift) frac

at_minus : (shift last : ℕ) (y frac : Float) (n : ℕ) → HasValue y true n 1 → is_at (place_from shift last y frac) ≡ (leb n shift && leb (shift - n) last)
at_minus shift last y frac n v = ap is_at (place_minus shift last y frac n v) ∙ at_within (leb n shift && leb (shift - n) last) (shift - n) frac

-- ---- in units, of which U make one: v from -shift on and below last - shift + 1, and w the greatest whole number not above v
abbrev Between : ℕ → ℕ → ℕ → Whole → Type 0
Between U shift last v = AtMost (0, shift * U) v × Less v ((last + 1) * U, shift * U)

module _ (U shift last n : ℕ) (one : 0 < U) (v w : Whole) (g : Greatest U v w) where
  plain_between : w ≡ (n * U, 0) → (leb (n + shift) last ≡ true) ↔ Between U shift last v
  plain_between e =
      let l = subst (λ (z : Whole). AtMost z v) e g.at_most in
      let r = subst (λ (z : Whole). Less v (z ⊕ (U, 0))) e g.near in
      ((λ h. omega (arith, l, r, mul-le-mul_right U (leb-true (n + shift) last h))), (λ b. le-leb (n + shift) last (back l b)))
    where
      back : AtMost (n * U, 0) v → Between U shift last v → n + shift ≤ last
      back l b = omega (arith, lt_of_mul-lt-mul_right U {m = n + shift} {n = last + 1} (omega arith))

  minus_between : w ≡ (0, n * U) → ((leb n shift && leb (shift - n) last) ≡ true) ↔ Between U shift last v
  minus_between e =
      let l = subst (λ (z : Whole). AtMost z v) e g.at_most in
      let r = subst (λ (z : Whole). Less v (z ⊕ (U, 0))) e g.near in (
        (λ h. go l r ((and-eq-true_iff (leb n shift) (leb (shift - n) last)).0 h)),
        (λ b. (and-eq-true_iff (leb n shift) (leb (shift - n) last)).1 (le-leb n shift (near b), le-leb (shift - n) last (omega (arith, far l b)))),
      )
    where
      go : AtMost (0, n * U) v → Less v ((0, n * U) ⊕ (U, 0)) → (leb n shift ≡ true) × (leb (shift - n) last ≡ true) → Between U shift last v
      go l r h =
          let p : n ≤ shift = leb-true n shift h.0 in
          let q : shift ≤ last + n = omega (arith, leb-true (shift - n) last h.1) in
          omega (arith, mul-le-mul_right U p, mul-le-mul_right U q)

      near : Between U shift last v → n ≤ shift
      near b =
          let k : AtMost (U ⊙ (0, shift)) (0, n * U) = subst (AtMost (U ⊙ (0, shift))) e (g.greatest (0, shift) (omega arith)) in
          le_of_mul-le-mul_right {m = n} {n = shift} (omega arith) one

      far : AtMost (0, n * U) v → Between U shift last v → shift ≤ last + n
      far l b = omega (arith, lt_of_mul-lt-mul_right U {m = shift} {n = last + 1 + n} (omega arith))

-- ---- as doubles
-- x is a number of at least -shift, and below last - shift + 1
pub record Placed (shift last : ℕ) (x : Float) : Type 0 where
  pub number : Number binary64 x
  pub at_least : AtMost (0, shift * 2 ^ low binary64) (exact binary64 x)
  pub below : Less (exact binary64 x) ((last + 1) * 2 ^ low binary64, shift * 2 ^ low binary64)

-- an index has a place just where it is such a number
pub place_iff : (shift last : ℕ) (x : Float) → T (fits binary64 x) → (is_at (place_of shift last x) ≡ true) ↔ Placed shift last x
unfolding place_from made_whole
place_iff shift last nan t = ((λ h. absurd (false≢true h)), (λ p. absurd p.number.0))
place_iff shift last (inf s) t = ((λ h. absurd (false≢true h)), (λ p. absurd p.number.0))
place_iff shift last (fin false m e) t =
    let x = fin false m e in
    let n = part_div (m * up e) (down e) in
    let v = next_value binary64 false m e n t (part_next (m * up e) (down e)) in
    let a = at_plain shift last (whole_f false n) _ n (whole_f_value false n v) in
    let b = plain_between (2 ^ low binary64) shift last n (pow_pos (low binary64)) (exact binary64 x) (exact binary64 (floor_of x)) (floor_greatest x (tt, t)).1 (whole_exact false n v) in
    ((λ h. let l = b.0 (sym a ∙ h) in record { number = (tt, t); at_least = l.0; below = l.1 }), (λ p. a ∙ b.1 (p.at_least, p.below)))
place_iff shift last (fin true m e) t =
    let x = fin true m e in
    let n = over_div (m * up e) (down e) in
    let v = next_value binary64 true m e n t (over_next (m * up e) (down e)) in
    let a = at_minus shift last (whole_f true n) _ n (whole_f_value true n v) in
    let b = minus_between (2 ^ low binary64) shift last n (pow_pos (low binary64)) (exact binary64 x) (exact binary64 (floor_of x)) (floor_greatest x (tt, t)).1 (whole_exact true n v) in
    ((λ h. let l = b.0 (sym a ∙ h) in record { number = (tt, t); at_least = l.0; below = l.1 }), (λ p. a ∙ b.1 (p.at_least, p.below)))

pub place_bounds : (shift last : ℕ) (x : Float) → T (fits binary64 x) → is_at (place_of shift last x) ≡ true → Placed shift last x
place_bounds shift last x t h = (place_iff shift last x t).0 h
