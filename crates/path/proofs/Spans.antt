-- Two comparisons tell whether an index has a place, and a sum and a cast give it: the span's ends and floor + shift are whole numbers that a double holds. Assumes nothing.
use mathlib.Core.Bool.{Bool, true, false, not, ◌&&◌, cond, true≢false, false≢true, and-eq-true_iff}
use mathlib.Core.Logic.{◌↔◌}
use mathlib.Core.Path.{◌≡◌, refl, sym, ap, ◌∙◌, subst}
use Prim.Native.Nat.{ℕ, ◌+◌, ◌-◌, ◌*◌, ◌^◌, ◌≤◌, ◌<◌}
use native.Mathlib.Nat.{mul-pos}
use native.Mathlib.Omega.{arith}
use borrow.Author.Tests.{leb-true}
use denote.Floats.{passes, is_true}
use lib.Dec.{T, leb, ltb, ltb→lt, nltb→le, le→leb}
use lib.IntN.{pos}
use lib.Ieee.{Float, nan, inf, fin, Format, binary64, low, up, down, round, sum, add, neg, lt, eq, le, fits, of_int, in_float, in_unsigned, to_unsigned}
use lib.Ieee.Back.{round_whole, unsigned_back}
use lib.Ieee.Exact.{HasValue}
use lib.Ieee.Fits.{down_pos, add-fits, neg-fits, of_int-fits}
use lib.Ieee.Scale.{round_same}
use Rattle.exact.specs.Doubles.{◌+f◌, count}
use Rattle.exact.specs.Whole.{Whole, signed, Same, Less, AtMost}
use Rattle.exact.specs.Exact.{exact, Number}
use Rattle.exact.proofs.Exact.{finite_of}
use Rattle.exact.proofs.Order.{lt_exact, le_exact}
use Rattle.exact.proofs.Products.{ones_exact}
use Rattle.whole.specs.declared.Parts.{Parts}
use Rattle.whole.specs.Rounded.{made_whole, part_div, over_div, floor_of, split_of}
use Rattle.whole.proofs.Divisions.{part_next, over_next}
use Rattle.whole.proofs.Held.{next_value, whole_f_value}
use Rattle.path.specs.declared.Span.{Span}
use Rattle.path.specs.declared.Place.{Place}
use Rattle.std.proofs.Common.{Option, Some, None}
use Rattle.path.specs.Places.{place_at, within, place_from, place_of, is_at}
use Rattle.path.specs.Turns.{span_of, is_within}
use Rattle.path.proofs.Bounds.{place_plain, place_minus, Placed, place_iff}

-- ---- the sum of a whole number and a count, as fractions over c: one rounding of a whole number
module _ (f : Format) (A B c : ℕ) (C : 0 < c) where
  sum_plain : (n k : ℕ) → A ≡ n * c → B ≡ k * c → sum f false A false B c ≡ round f false (n + k) 1
  unfolding sum
  sum_plain n k p q = round_same f false (A + B) c (n + k) 1 C (omega arith) (omega (arith, p, q))

  sum_up : (n j : ℕ) → A ≡ n * c → B ≡ (j + n) * c → sum f true A false B c ≡ round f false j 1
  unfolding sum
  sum_up n j p q = go (ltb A B) (ltb B A) (nltb→le A B) (ltb→lt B A)
    where
      go : (o r : Bool) → (T (not o) → B ≤ A) → (T r → B < A) → cond o (round f false (B - A) c) (round f r (A - B) c) ≡ round f false j 1
      go true r u v = round_same f false (B - A) c j 1 C (omega arith) (omega (arith, p, q))
      go false false u v = round_same f false (A - B) c j 1 C (omega arith) (omega (arith, p, q, u tt))
      go false true u v = absurd (omega (arith, p, q, v tt))

  sum_down : (j k : ℕ) → 0 < j → A ≡ (j + k) * c → B ≡ k * c → sum f true A false B c ≡ round f true j 1
  unfolding sum
  sum_down j k h p q = go (ltb A B) (ltb B A) (ltb→lt A B) (nltb→le B A)
    where
      go : (o r : Bool) → (T o → A < B) → (T (not r) → A ≤ B) → cond o (round f false (B - A) c) (round f r (A - B) c) ≡ round f true j 1
      go true r u v = absurd (omega (arith, p, q, u tt))
      go false false u v = absurd (omega (arith, p, q, v tt, mul-pos h C))
      go false true u v = round_same f true (A - B) c j 1 C (omega arith) (omega (arith, p, q))

-- ---- as doubles
count_value : (n : ℕ) → n < 262144 → HasValue (count n) false n 1
unfolding of_int
count_value n h = round_whole binary64 false n (omega (arith, h))

minus_value : (n : ℕ) → n < 262144 → HasValue (neg (count n)) true n 1
unfolding of_int
minus_value n h = whole_f_value true n (count_value n h)

-- the sum of two whole numbers, as fractions over one denominator
over : (n a c d : ℕ) → a * 1 ≡ n * c → a * d ≡ n * (c * d)
over n a c d e = omega (arith, ap (λ (z : ℕ). z * d) e)

over' : (n a c d : ℕ) → a * 1 ≡ n * d → a * c ≡ n * (c * d)
over' n a c d e = omega (arith, ap (λ (z : ℕ). z * c) e)

add_as : (x y : Float) (s t : Bool) (n k : ℕ) → HasValue x s n 1 → HasValue y t k 1 → (c : ℕ) × (0 < c) × (x +f y ≡ sum binary64 s (n * c) t (k * c) c)
unfolding add
add_as nan y s t n k v w = absurd v
add_as (inf u) y s t n k v w = absurd v
add_as (fin u m e) nan s t n k v w = absurd w
add_as (fin u m e) (inf r) s t n k v w = absurd w
add_as (fin u m e) (fin r p d) s t n k v w =
    (down e * down d, mul-pos (down_pos e) (down_pos d), rw (v.0, w.0, over n (m * up e) (down e) (down d) v.1, over' k (p * up d) (down e) (down d) w.1))

pub count_add : (n k : ℕ) → n < 131072 → k < 131072 → count n +f count k ≡ count (n + k)
unfolding of_int
count_add n k h l =
    let (c, C, e) = add_as (count n) (count k) false false n k (count_value n (omega arith)) (count_value k (omega arith)) in
    e ∙ sum_plain binary64 (n * c) (k * c) c C n k refl refl

-- the count n taken from the count j + n
pub count_take : (n j : ℕ) → n + j < 262144 → neg (count n) +f count (j + n) ≡ count j
unfolding of_int
count_take n j h =
    let (c, C, e) = add_as (neg (count n)) (count (j + n)) true false n (j + n) (minus_value n (omega arith)) (count_value (j + n) (omega arith)) in
    e ∙ sum_up binary64 (n * c) ((j + n) * c) c C n j refl refl

-- the count j + k, which is more, taken from the count k
count_below : (j k : ℕ) → 0 < j → j + k < 262144 → HasValue (neg (count (j + k)) +f count k) true j 1
count_below j k o h =
    let (c, C, e) = add_as (neg (count (j + k))) (count k) true false (j + k) k (minus_value (j + k) (omega arith)) (count_value k (omega arith)) in
    subst (λ (z : Float). HasValue z true j 1) (sym (e ∙ sum_down binary64 ((j + k) * c) (k * c) c C j k o refl refl)) (round_whole binary64 true j (omega (arith, h)))

-- ---- the span's ends are numbers, and exact
number_of : (x : Float) (s : Bool) (n : ℕ) → T (fits binary64 x) → HasValue x s n 1 → Number binary64 x
number_of x s n t v = (finite_of x s n 1 v, t)

pub record Ends (shift last : ℕ) : Type 0 where
  pub first : Number binary64 (span_of shift last).least
  pub least : exact binary64 (span_of shift last).least ≡ (0, shift * 2 ^ low binary64)
  pub final : Number binary64 (span_of shift last).end
  pub end : Same (exact binary64 (span_of shift last).end) ((last + 1) * 2 ^ low binary64, shift * 2 ^ low binary64)

end_is : (s : Bool) (j shift last U : ℕ) (x : Float) → exact binary64 x ≡ signed s (j * U) → Same (signed s j) (last + 1, shift) → Same (exact binary64 x) ((last + 1) * U, shift * U)
end_is false j shift last U x e h = rw e (omega (arith, ap (λ (z : ℕ). z * U) h))
end_is true j shift last U x e h = rw e (omega (arith, ap (λ (z : ℕ). z * U) h))

pub ends : (shift last : ℕ) → shift < 131072 → last < 131072 → Ends shift last
ends shift last h l = go (ltb (last + 1) shift) (ltb→lt (last + 1) shift) (nltb→le (last + 1) shift)
  where
    made : (s : Bool) (j : ℕ) → HasValue (span_of shift last).end s j 1 → Same (signed s j) (last + 1, shift) → Ends shift last
    made s j v e =
        record {
          first = number_of (neg (count shift)) true shift (neg-fits binary64 (count shift) (of_int-fits binary64 (pos shift))) (minus_value shift (omega arith));
          least = ones_exact binary64 (neg (count shift)) true shift (minus_value shift (omega arith));
          final = number_of (span_of shift last).end s j (add-fits binary64 (neg (count shift)) (count (last + 1))) v;
          end = end_is s j shift last (2 ^ low binary64) (span_of shift last).end (ones_exact binary64 (span_of shift last).end s j v) e;
        }

    go : (b : Bool) → (T b → last + 1 < shift) → (T (not b) → shift ≤ last + 1) → Ends shift last
    go true u v =
        let j = shift - (last + 1) in
        let k : j + (last + 1) ≡ shift = omega (arith, u tt) in
        made true j (subst (λ (z : ℕ). HasValue (neg (count z) +f count (last + 1)) true j 1) k (count_below j (last + 1) (omega (arith, u tt)) (omega arith))) (omega arith)
    go false u v =
        let j = last + 1 - shift in
        let k : j + shift ≡ last + 1 = omega (arith, v tt) in
        made false j (subst (λ (z : Float). HasValue z false j 1) (sym (ap (λ (z : ℕ). neg (count shift) +f count z) (sym k) ∙ count_take shift j (omega arith))) (count_value j (omega arith))) (omega arith)

less_same : (u v w : Whole) → Less u v → Same v w → Less u w
less_same u v w h e = omega arith

less_as : (u v w : Whole) → Less u w → Same v w → Less u v
less_as u v w h e = omega arith

-- ---- the law: an index lies within the span just where it has a place
no_nan : (y : Float) → le y nan ≡ false
unfolding le lt eq
no_nan nan = refl
no_nan (inf s) = refl
no_nan (fin s m e) = refl

not_above : (y : Float) → Number binary64 y → lt (inf false) y ≡ false
unfolding lt
not_above nan p = absurd p.0
not_above (inf s) p = absurd p.0
not_above (fin s m e) p = refl

not_below : (y : Float) → Number binary64 y → le y (inf true) ≡ false
unfolding le lt eq
not_below nan p = absurd p.0
not_below (inf s) p = absurd p.0
not_below (fin s m e) p = refl

off_left : (a b : Bool) → a ≡ false → (a && b) ≡ false
off_left a b e = rw e

off_right : (a b : Bool) → b ≡ false → (a && b) ≡ false
off_right true b e = e
off_right false b e = refl

same_tests : (a b : Bool) → (a ≡ true → b ≡ true) → (b ≡ true → a ≡ true) → a ≡ b
same_tests true b f g = sym (f refl)
same_tests false true f g = g refl
same_tests false false f g = refl

module _ (shift last : ℕ) (h : shift < 131072) (l : last < 131072) where
  -- a number in the span
  span_placed : (x : Float) → Number binary64 x → (is_within (span_of shift last) x ≡ true) ↔ Placed shift last x
  span_placed x n =
      let b = ends shift last h l in
      let p = le_exact binary64 (span_of shift last).least x b.first n in
      let q = lt_exact binary64 x (span_of shift last).end n b.final in (
        (λ e.
            let w = (and-eq-true_iff (le (span_of shift last).least x) (lt x (span_of shift last).end)).0 e in
            record {
              number = n;
              at_least = subst (λ (v : Whole). AtMost v (exact binary64 x)) b.least (p.0 (passes _ w.0));
              below = less_same (exact binary64 x) _ _ (q.0 (passes _ w.1)) b.end;
            }),
        (λ d.
            (and-eq-true_iff (le (span_of shift last).least x) (lt x (span_of shift last).end)).1
            (is_true _ (p.1 (subst (λ (v : Whole). AtMost v (exact binary64 x)) (sym b.least) d.at_least)), is_true _ (q.1 (less_as (exact binary64 x) _ _ d.below b.end)))),
      )

  pub span_is : (x : Float) → T (fits binary64 x) → is_within (span_of shift last) x ≡ is_at (place_of shift last x)
  unfolding place_from made_whole
  span_is nan t = off_left (le (span_of shift last).least nan) _ (no_nan (span_of shift last).least)
  span_is (inf true) t = off_left (le (span_of shift last).least (inf true)) _ (not_below (span_of shift last).least (ends shift last h l).first)
  span_is (inf false) t = off_right (le (span_of shift last).least (inf false)) (lt (inf false) (span_of shift last).end) (not_above (span_of shift last).end (ends shift last h l).final)
  span_is (fin s m e) t =
      let x = fin s m e in
      let p = span_placed x (tt, t) in
      let q = place_iff shift last x t in
      same_tests (is_within (span_of shift last) x) (is_at (place_of shift last x)) (λ e. q.1 (p.0 e)) (λ e. p.1 (q.0 e))

-- ---- and there floor + shift is the place: a whole number from 0 on, so that the sum is exact and the cast loses nothing
pub record Found (shift last : ℕ) (x : Float) : Type 0 where
  pub place : ℕ
  pub few : place < 131072
  pub total : floor_of x +f count shift ≡ count place
  pub is : place_of shift last x ≡ Some (place_at place (split_of x).frac)

at_true : (b : Bool) (s : ℕ) (x : Float) → is_at (within b (place_at s x)) ≡ true → (b ≡ true) × (within b (place_at s x) ≡ Some (place_at s x))
at_true true s x e = (refl, refl)
at_true false s x e = absurd (false≢true e)

module _ (shift last : ℕ) (h : shift < 131072) (l : last < 131072) where
  pub found : (x : Float) → T (fits binary64 x) → is_at (place_of shift last x) ≡ true → Found shift last x
  unfolding place_from made_whole
  found nan t a = absurd (false≢true a)
  found (inf s) t a = absurd (false≢true a)
  found (fin false m e) t a =
      let x = fin false m e in
      let n = part_div (m * up e) (down e) in
      let v = whole_f_value false n (next_value binary64 false m e n t (part_next (m * up e) (down e))) in
      let p = place_plain shift last (count n) (split_of x).frac n v in
      let b = at_true (leb (n + shift) last) (n + shift) (split_of x).frac (subst (λ (z : Option Place). is_at z ≡ true) p a) in
      let k : n + shift ≤ last = leb-true (n + shift) last b.0 in
      record {
        place = n + shift;
        few = omega arith;
        total = count_add n shift (omega arith) h;
        is = p ∙ b.1;
      }
  found (fin true m e) t a =
      let x = fin true m e in
      let n = over_div (m * up e) (down e) in
      let v = whole_f_value true n (next_value binary64 true m e n t (over_next (m * up e) (down e))) in
      let p = place_minus shift last (neg (count n)) (split_of x).frac n v in
      let b = at_true (leb n shift && leb (shift - n) last) (shift - n) (split_of x).frac (subst (λ (z : Option Place). is_at z ≡ true) p a) in
      let k : n ≤ shift = leb-true n shift ((and-eq-true_iff (leb n shift) (leb (shift - n) last)).0 b.0).0 in
      let j : shift - n + n ≡ shift = omega arith in
      record {
        place = shift - n;
        few = omega arith;
        total = subst (λ (z : ℕ). neg (count n) +f count z ≡ count (shift - n)) j (count_take n (shift - n) (omega arith));
        is = p ∙ b.1;
      }

pub no_place : (p : Option Place) → is_at p ≡ false → None ≡ p
no_place (Some p) e = absurd (true≢false e)
no_place None e = refl

-- what the casts ask
pub count_held : (n : ℕ) → n < 262144 → T (in_float binary64 (pos n))
unfolding in_float
count_held n h = le→leb n (2 ^ 53) (omega (arith, h))

module _ (shift last : ℕ) (x : Float) (h : shift < 131072) (l : last < 131072) (t : T (fits binary64 x)) (span : Span) (b : Bool) (s : span ≡ span_of shift last) (w : b ≡ is_within span x) where
  -- the test is Reach's of this index
  pub test_is : b ≡ is_at (place_of shift last x)
  test_is = w ∙ ap (λ (z : Span). is_within z x) s ∙ span_is shift last h l x t

  pub place_out : b ≡ false → None ≡ place_of shift last x
  place_out e = no_place (place_of shift last x) (sym test_is ∙ e)

  -- what is cast, and what the cast gives
  module _ (e : b ≡ true) (parts : Parts) (p : parts ≡ split_of x) where
    place_found : Found shift last x
    place_found = found shift last h l x t (sym test_is ∙ e)

    total_is : parts.floor +f count shift ≡ count place_found.place
    total_is = ap (λ (z : Parts). z.floor +f count shift) p ∙ place_found.total

    back : T (in_unsigned binary64 32 (count place_found.place)) × (to_unsigned 32 (count place_found.place) ≡ place_found.place)
    back = unsigned_back binary64 32 place_found.place (count_held place_found.place (omega (arith, place_found.few))) (omega (arith, place_found.few))

    pub cast_asks : T (in_unsigned binary64 32 (parts.floor +f count shift))
    cast_asks = subst (λ (z : Float). T (in_unsigned binary64 32 z)) (sym total_is) back.0

    pub cast_few : to_unsigned 32 (parts.floor +f count shift) < 131072
    cast_few = rw (total_is, back.1) place_found.few

    pub cast_is : Some (place_at (to_unsigned 32 (parts.floor +f count shift)) parts.frac) ≡ place_of shift last x
    cast_is = ap (λ (n : ℕ). Some (place_at n parts.frac)) (ap (to_unsigned 32) total_is ∙ back.1) ∙ ap (λ (z : Parts). Some (place_at place_found.place z.frac)) p ∙ sym place_found.is
