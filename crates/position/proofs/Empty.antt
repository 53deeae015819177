-- A fixed input that needs no output frames is not far ahead of the index: the quotient of the output size is below 2 there. In units of 2 ^ -1074. Assumes nothing.
use Rattle.std.specs.Prelude.{Some}
use mathlib.Core.Bool.{Bool, true, false}
use mathlib.Core.Path.{◌≡◌, refl, subst}
use Prim.Native.Nat.{ℕ, ◌+◌, ◌*◌, ◌/◌, ◌^◌, ◌≤◌, ◌<◌}
use native.Mathlib.Nat.{le_trans, lt_of_lt_of_le, le_of_mul-le-mul_left, mul-le-mul_left, mul-le-mul_right}
use native.Mathlib.Omega.{arith}
use lib.Dec.{lit≤}
use lib.Ieee.{Float, nan, inf, fin, binary64, up, down}
use lib.Pow.{pow_pos}
use Rattle.exact.specs.Doubles.{◌+f◌, ◌-f◌, ◌/f◌, count}
use Rattle.exact.specs.Whole.{Whole, ◌⊕◌, ◌⊖◌, ◌⊙◌, ◌⊗◌, Less, AtMost, Below, Within}
use Rattle.exact.specs.Exact.{mag, exact, Number}
use Rattle.exact.specs.Rounding.{slack}
use Rattle.exact.proofs.Sums.{add_near}
use Rattle.exact.proofs.Products.{div_near}
use Rattle.whole.specs.Rounded.{floor_of}
use Rattle.whole.proofs.Units.{shared}
use Rattle.whole.proofs.Values.{part_bounds, floor_greatest}
use Rattle.sizes.specs.Bounds.{is_size}
use Rattle.sizes.specs.Sizes.{sized, size_of, avg_of, over_of, output_float}
use Rattle.position.proofs.Amounts.{count_exact, mag_between, mag_below, looser, half_near, sub_of}
use Rattle.position.proofs.Steps.{Pace, Step, difference}

-- ---- a size of no frames: its floor is below 1, so the number is below 2
pub count_is : (b : Bool) (n k : ℕ) → sized b n ≡ Some k → n ≡ k
count_is true n k e = cc
count_is false n k e = absurd (let z : ◌≡◌ {A = ℕ} 0 1 = cc in omega arith)

whole_none : (y : Float) → Number binary64 y → size_of y ≡ Some 0 → Less (exact binary64 y) (2 ^ 1074, 0)
unfolding size_of exact
whole_none nan n e = absurd n.0
whole_none (inf s) n e = absurd n.0
whole_none (fin true m d) n e = minus (2 ^ 1074) (mag binary64 (fin true m d)) (pow_pos 1074)
  where
    minus : (U m : ℕ) → 0 < U → Less (0, m) (U, 0)
    minus U m p = omega arith
whole_none (fin false m d) n e =
    let k = m * up d / down d in
    plain (2 ^ 1074) k (mag binary64 (fin false m d)) (count_is (is_size k) k 0 e) (part_bounds (shared binary64 false m d n.1)).1
  where
    plain : (U k m : ℕ) → k ≡ 0 → m < k * U + U → Less (m, 0) (U, 0)
    plain U k m z h = let g = subst (λ (x : ℕ). m < x * U + U) z h in omega arith

floor_none : (q : Float) → Number binary64 q → size_of (floor_of q) ≡ Some 0 → Less (exact binary64 q) (2 * 2 ^ 1074, 0)
floor_none q n e =
    let g = floor_greatest q n in
    next (2 ^ 1074) (exact binary64 q) (exact binary64 (floor_of q)) g.1.near (whole_none (floor_of q) g.0 e)
  where
    next : (U : ℕ) (v w : Whole) → Less v (w ⊕ (U, 0)) → Less w (U, 0) → Less v (2 * U, 0)
    next U v w a b = omega arith

-- ---- U is one: C is the chunk, L the points and one more, i the index, t and u the two steps; every rounding is off by at most U
record Around (U C L : ℕ) (i t u : Whole) : Type 0 where
  some : 0 < U
  chunk : C ≤ 65536 * U
  points : L ≤ 257 * U
  index : Below (131072 * U) i
  t_least : AtMost (0, 0) t
  t_most : AtMost t (257 * U, 0)
  u_least : AtMost (0, 0) u
  u_most : AtMost u (257 * U, 0)

module _ {U C L : ℕ} {i t u : Whole} (r : Around U C L i t u) where
  below_first : Below (524288 * U) ((C, 0) ⊖ (L, 0))
  below_first = omega arith

  below_second : (a : Whole) → Within U a ((C, 0) ⊖ (L, 0)) → Below (524288 * U) (a ⊖ i)
  below_second a wa = omega arith

  below_third : (a b x o : Whole) → Within U a ((C, 0) ⊖ (L, 0)) → Within U b (a ⊖ i) → Within U x (u ⊖ t) → Within (2 * U) (2 ⊙ o) x → Below (524288 * U) (b ⊖ o)
  below_third a b x o wa wb wx wo = omega arith

  -- m is the numerator of the quotient
  module _ (a b x o m : Whole) (wa : Within U a ((C, 0) ⊖ (L, 0))) (wb : Within U b (a ⊖ i)) (wx : Within U x (u ⊖ t)) (wo : Within (2 * U) (2 ⊙ o) x) (wm : Within U m (b ⊖ o)) where
    below_last : Below (1048576 * U) m
    below_last = omega arith

    ahead : (A : ℕ) → A ≤ 258 * U → m.0 ≤ m.1 + 3 * A → AtMost (C, 0) (i ⊕ (1300 * U, 0))
    ahead A e g = omega arith

-- the average step is from 1/1024 to 258; h is 2 ^ -46
sum_below : (h : ℕ) (t u : Whole) → Pace h t → Pace h u → Below (2 ^ 10 * (2 ^ 46 * h)) (t ⊕ u)
sum_below h t u a b = omega arith

sum_near : (h : ℕ) (t u s : Whole) → Pace h t → Pace h u → Within (4 * h) s (t ⊕ u) → Below (2 ^ 10 * (2 ^ 46 * h)) s
sum_near h t u s a b w = omega arith

average : (h : ℕ) (t u s v : Whole) → Pace h t → Pace h u → Within (4 * h) s (t ⊕ u) → Within (2 * (4 * h)) (2 ⊙ v) s → AtMost (2 ^ 36 * h, 0) v × AtMost v (258 * (2 ^ 46 * h), 0)
average h t u s v a b w k = omega arith

-- the quotient q = m/A is below 2, so m is at most 3*A
under_two : (U A e : ℕ) (m q : Whole) → 0 < U → e ≤ U → Less q (2 * U, 0) → Within (A * e) ((A, 0) ⊗ q) (U ⊙ m) → m.0 ≤ m.1 + 3 * A
under_two U A e m q P l h w =
    let a : U * m.0 ≤ U * (m.1 + 3 * A) = omega (arith, mul-le-mul_left A l, mul-le-mul_left A h) in
    le_of_mul-le-mul_left a P

not_below : (a : ℕ) (v : Whole) → AtMost (a, 0) v → AtMost (0, 0) v
not_below a v h = omega arith

-- ---- the definition's floats: l the points, c the chunk, i the index, t and u the steps
module _ (l c : ℕ) (i t u : Float) (hl : l ≤ 256) (hc : c ≤ 65536) (n : Number binary64 i) (k : Below (2 ^ 1091) (exact binary64 i)) (a : Step t) (b : Step u) where
  points_most : l + 1 ≤ 257
  points_most = omega arith

  around : Around (2 ^ 1074) (c * 2 ^ 1074) ((l + 1) * 2 ^ 1074) (exact binary64 i) (exact binary64 t) (exact binary64 u)
  around =
      record {
        some = pow_pos 1074;
        chunk = mul-le-mul_right (2 ^ 1074) hc;
        points = mul-le-mul_right (2 ^ 1074) points_most;
        index = k;
        t_least = not_below (2 ^ 1065) (exact binary64 t) a.pace.least;
        t_most = a.pace.most;
        u_least = not_below (2 ^ 1065) (exact binary64 u) b.pace.least;
        u_most = b.pace.most;
      }

  -- the numerator is below 2 ^ 20; where it is at most 3*A, the chunk is at most 1300 ahead of the index
  numerator : let m = count c -f count (l + 1) -f i -f over_of t u in
      Number binary64 m × Below (2 ^ 1094) (exact binary64 m)
      × ((A : ℕ) → A ≤ 258 * 2 ^ 1074 → (exact binary64 m).0 ≤ (exact binary64 m).1 + 3 * A → AtMost (c * 2 ^ 1074, 0) (exact binary64 i ⊕ (1300 * 2 ^ 1074, 0)))
  numerator =
      let U = 2 ^ 1074 in
      let C = count_exact c (le_trans hc (lit≤ tt)) in
      let L = count_exact (l + 1) (le_trans points_most (lit≤ tt)) in
      let f = sub_of 19 U (count c) (count (l + 1)) (c * U, 0) ((l + 1) * U, 0) C.0 L.0 C.1 L.1 (lit≤ tt) (lit≤ tt) (below_first around) in
      let p = count c -f count (l + 1) in
      let g = sub_of 19 U p i (exact binary64 p) (exact binary64 i) f.0 n refl refl (lit≤ tt) (lit≤ tt) (below_second around (exact binary64 p) f.1) in
      let x = difference t u a b in
      let X = exact binary64 (u -f t) in
      let wx = looser (2 ^ 1029) U X (exact binary64 u ⊖ exact binary64 t) (lit≤ tt) x.1 in
      let o = half_near 9 (u -f t) x.0 (lit≤ tt) x.2 in
      let O = exact binary64 (over_of t u) in
      let wo = looser (2 * 2 ^ 1029) (2 * U) (2 ⊙ O) X (lit≤ tt) o.1 in
      let q = p -f i in
      let h = sub_of 19 U q (over_of t u) (exact binary64 q) O g.0 o.0 refl refl (lit≤ tt) (lit≤ tt) (below_third around (exact binary64 p) (exact binary64 q) X O f.1 g.1 wx wo) in
      let M = exact binary64 (q -f over_of t u) in
      (h.0, below_last around (exact binary64 p) (exact binary64 q) X O M f.1 g.1 wx wo h.1, ahead around (exact binary64 p) (exact binary64 q) X O M f.1 g.1 wx wo h.1)

  -- the average step
  divisor : Number binary64 (avg_of t u) × AtMost (2 ^ 1064, 0) (exact binary64 (avg_of t u)) × AtMost (exact binary64 (avg_of t u)) (258 * 2 ^ 1074, 0)
  divisor =
      let v = exact binary64 t in
      let w = exact binary64 u in
      let s = add_near binary64 10 t u a.number b.number (lit≤ tt) (sum_below (2 ^ 1028) v w a.pace b.pace) in
      let S = exact binary64 (t +f u) in
      let h = half_near 10 (t +f u) s.0 (lit≤ tt) (sum_near (2 ^ 1028) v w S a.pace b.pace s.1) in
      let z = average (2 ^ 1028) v w S (exact binary64 (avg_of t u)) a.pace b.pace s.1 h.1 in
      (h.0, z.0, z.1)

  pub none_ahead : size_of (output_float l c i t u) ≡ Some 0 → AtMost (c * 2 ^ 1074, 0) (exact binary64 i ⊕ (1300 * 2 ^ 1074, 0))
  none_ahead e =
      let m = count c -f count (l + 1) -f i -f over_of t u in
      let d = avg_of t u in
      let A = mag binary64 d in
      let N = numerator in
      let D = divisor in
      let e' = mag_between (2 ^ 1064) (258 * 2 ^ 1074) d D.0 (pow_pos 1064) D.1 D.2 in
      let q = div_near binary64 30 m d N.0 D.0 (lit≤ tt) (lt_of_lt_of_le (pow_pos 1064) e'.1) (lt_of_lt_of_le (mag_below (2 ^ 1094) m N.0 N.1) (mul-le-mul_left (2 ^ 30) e'.1)) in
      let w = subst (λ (v : Whole). Within (A * slack binary64 30) (v ⊗ exact binary64 (m /f d)) (2 ^ 1074 ⊙ exact binary64 m)) e'.0 q.1 in
      N.2 A e'.2 (under_two (2 ^ 1074) A (slack binary64 30) (exact binary64 m) (exact binary64 (m /f d)) (pow_pos 1074) (lit≤ tt) (floor_none (m /f d) q.0 e) w)
