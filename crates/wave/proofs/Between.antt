-- Between two whole steps the cosine lies between their values, exactly; and at a whole step it is the entry's. By exact values: each of the four roundings keeps the order. Assumes nothing.
use Rattle.std.proofs.Common.{◌≡◌, ℕ, ◌+◌, ◌-◌, ◌*◌, ◌^◌, ◌<◌, ◌≤◌, Bool, true, false, not, T, leb, ℤ, pos, ◌+ℤ◌, ◌-ℤ◌, nat_abs, sym, subst, inl, inr, le_trans, le_of_lt, mul-le-mul_right, le_antisymm, arith, lit<, lit≤, leb→le}
use lib.Dec.{nleb→lt}
use lib.Ieee.{Float, binary64, up, down, fits, of_int}
use lib.Ieee.Positive.{den}
use Rattle.exact.specs.Doubles.{◌+f◌, ◌-f◌, ◌*f◌}
use Rattle.exact.specs.Samples.{line_on}
use Rattle.exact.specs.Whole.{Whole, signed, ◌⊕◌, ◌⊖◌, ◌⊙◌, Same, AtMost}
use Rattle.exact.specs.Exact.{exact, Number}
use Rattle.exact.specs.Integers.{pair_of}
use Rattle.exact.specs.Rounding.{RoundOf}
use Rattle.exact.proofs.Integers.{pair_abs}
use Rattle.exact.proofs.Sums.{add_is, sub_is}
use Rattle.exact.proofs.Sizes.{Sized, mul_sized}
use Rattle.whole.specs.Numbers.{Fraction}
use Rattle.whole.specs.Rounded.{floor_of, split_of}
use Rattle.whole.specs.Small.{small}
use Rattle.whole.proofs.Small.{small_number}
use Rattle.whole.proofs.Splits.{split_frac}
use Rattle.wave.specs.Between.{step_units, Between}
use Rattle.wave.specs.Carried.{carried}
use Rattle.wave.specs.Cosine.{scale_f, between, steps_of, cosine_at, sine_at}
use Rattle.wave.proofs.Carried.{size_most}
use Rattle.wave.proofs.Sides.{L, sgn, units_same, sized_at, sized_both, apart_up, apart_down, same_sym, whole_of, between_of, scaled_between, float_sized, float_exact, part_sized, part_up, part_down}

-- ---- the line, from a to b and x of the way
module _ (a b : ℤ) (ha : nat_abs a ≤ 1073741824) (hb : nat_abs b ≤ 1073741824) (x : Float) (X : Sized binary64 1 x) (x0 : AtMost (0, 0) (exact binary64 x)) where
  abbrev P : Whole
  P = exact binary64 (of_int binary64 a)

  abbrev Q : Whole
  Q = exact binary64 (of_int binary64 b)

  abbrev D : Float
  D = of_int binary64 b -f of_int binary64 a

  units_of : (z : ℤ) → nat_abs z ≤ 1073741824 → Same (exact binary64 (of_int binary64 z)) (L ⊙ pair_of z)
  units_of z h = subst (λ (v : Whole). Same v (L ⊙ pair_of z)) (sym (float_exact z h)) (same_sym (L ⊙ pair_of z) (signed (sgn z) (nat_abs z * L)) (units_same L z))

  difference : RoundOf binary64 D (Q ⊖ P)
  difference = sub_is binary64 (of_int binary64 b) (of_int binary64 a) (float_sized b hb).number (float_sized a ha).number

  rising : (n : ℕ) → n < 4294967296 → Same (pair_of b) (pair_of a ⊕ (n, 0))
      → AtMost (2 ^ 1044 ⊙ pair_of a) (exact binary64 (line_on x (of_int binary64 a) (of_int binary64 b) *f scale_f)) × AtMost (exact binary64 (line_on x (of_int binary64 a) (of_int binary64 b) *f scale_f)) (2 ^ 1044 ⊙ pair_of b)
  rising n N e =
      let g = apart_up L n (pair_of a) (pair_of b) P Q (units_of a ha) (units_of b hb) e in
      let d = whole_of D (Q ⊖ P) false n difference N g in
      let y = part_up x D n X x0 d.0 N (start (exact binary64 D) (n * L) d.1) in
      let r = add_is binary64 (of_int binary64 a) (x *f D) (float_sized a ha).number (part_sized x D n X x0 d.0 N).number in
      let w = between_of a b (of_int binary64 a +f x *f D) (P ⊕ exact binary64 (x *f D)) ha hb r (on P (exact binary64 (x *f D)) y.0) (upto P Q (exact binary64 (x *f D)) (n * L) g y.1) in
      scaled_between a b (of_int binary64 a +f x *f D) ha hb w.0 w.1 w.2
    where
      start : (v : Whole) (g : ℕ) → Same v (g, 0) → AtMost (0, 0) v
      start v g e = omega arith

      on : (p y : Whole) → AtMost (0, 0) y → AtMost p (p ⊕ y)
      on p y h = omega arith

      upto : (p q y : Whole) (g : ℕ) → Same (q ⊖ p) (g, 0) → AtMost y (g, 0) → AtMost (p ⊕ y) q
      upto p q y g e h = omega arith

  falling : (n : ℕ) → n < 4294967296 → Same (pair_of a) (pair_of b ⊕ (n, 0))
      → AtMost (2 ^ 1044 ⊙ pair_of b) (exact binary64 (line_on x (of_int binary64 a) (of_int binary64 b) *f scale_f)) × AtMost (exact binary64 (line_on x (of_int binary64 a) (of_int binary64 b) *f scale_f)) (2 ^ 1044 ⊙ pair_of a)
  falling n N e =
      let g = apart_down L n (pair_of a) (pair_of b) P Q (units_of a ha) (units_of b hb) e in
      let d = whole_of D (Q ⊖ P) true n difference N g in
      let y = part_down x D n X x0 d.0 N (start (exact binary64 D) (n * L) d.1) in
      let r = add_is binary64 (of_int binary64 a) (x *f D) (float_sized a ha).number (part_sized x D n X x0 d.0 N).number in
      let w = between_of b a (of_int binary64 a +f x *f D) (P ⊕ exact binary64 (x *f D)) hb ha r (downto P Q (exact binary64 (x *f D)) (n * L) g y.0) (back P (exact binary64 (x *f D)) y.1) in
      scaled_between b a (of_int binary64 a +f x *f D) hb ha w.0 w.1 w.2
    where
      start : (v : Whole) (g : ℕ) → Same v (0, g) → AtMost v (0, 0)
      start v g e = omega arith

      back : (p y : Whole) → AtMost y (0, 0) → AtMost (p ⊕ y) p
      back p y h = omega arith

      downto : (p q y : Whole) (g : ℕ) → Same (q ⊖ p) (0, g) → AtMost (0, g) y → AtMost q (p ⊕ y)
      downto p q y g e h = omega arith

  -- one of the two is the smaller
  either : {A : Type 0} → ((n : ℕ) → n < 4294967296 → Same (pair_of b) (pair_of a ⊕ (n, 0)) → A) → ((n : ℕ) → n < 4294967296 → Same (pair_of a) (pair_of b ⊕ (n, 0)) → A) → A
  either {A} up down = go (leb u w) (leb→le u w) (nleb→lt u w)
    where
      u : ℕ
      u = (pair_of a).0 + (pair_of b).1

      w : ℕ
      w = (pair_of b).0 + (pair_of a).1

      few : (a0 a1 b0 b1 : ℕ) → a0 ≤ 1073741824 → a1 ≤ 1073741824 → b0 ≤ 1073741824 → b1 ≤ 1073741824 → (a0 + b1 - (b0 + a1) < 4294967296) × (b0 + a1 - (a0 + b1) < 4294967296)
      few a0 a1 b0 b1 h i j k = omega arith

      small : (u - w < 4294967296) × (w - u < 4294967296)
      small =
          let p = pair_abs a in
          let q = pair_abs b in
          few (pair_of a).0 (pair_of a).1 (pair_of b).0 (pair_of b).1 (le_trans p.0 ha) (le_trans p.1 ha) (le_trans q.0 hb) (le_trans q.1 hb)

      over : (a0 a1 b0 b1 : ℕ) → a0 + b1 ≤ b0 + a1 → Same (b0, b1) ((a0, a1) ⊕ (b0 + a1 - (a0 + b1), 0))
      over a0 a1 b0 b1 h = omega arith

      go : (o : Bool) → (T o → u ≤ w) → (T (not o) → w < u) → A
      go true i j = up (w - u) small.1 (over (pair_of a).0 (pair_of a).1 (pair_of b).0 (pair_of b).1 (i tt))
      go false i j = down (u - w) small.0 (over (pair_of b).0 (pair_of b).1 (pair_of a).0 (pair_of a).1 (le_of_lt (j tt)))

  -- between them, whichever is the smaller
  pub line_between : Between (2 ^ 1044 ⊙ pair_of a) (2 ^ 1044 ⊙ pair_of b) (exact binary64 (line_on x (of_int binary64 a) (of_int binary64 b) *f scale_f))
  line_between = either (λ n N e. inl (rising n N e)) (λ n N e. inr (falling n N e))

  difference_sized : Sized binary64 4294967296 D
  difference_sized =
      either (λ n N e. more n N (whole_of D (Q ⊖ P) false n difference N (apart_up L n (pair_of a) (pair_of b) P Q (units_of a ha) (units_of b hb) e)).0)
      (λ n N e. more n N (whole_of D (Q ⊖ P) true n difference N (apart_down L n (pair_of a) (pair_of b) P Q (units_of a ha) (units_of b hb) e)).0)
    where
      more : (n : ℕ) → n < 4294967296 → Sized binary64 n D → Sized binary64 4294967296 D
      more n N s = record { number = s.number; size = le_trans s.size (mul-le-mul_right (den D) (le_of_lt N)) }

  -- with nothing of the way gone it is a, exactly
  pub line_none : Same (exact binary64 x) (0, 0) → Same (exact binary64 (line_on x (of_int binary64 a) (of_int binary64 b) *f scale_f)) (2 ^ 1044 ⊙ pair_of a)
  line_none e =
      let z = sized_at 0 x X.number (no_more (exact binary64 x) L e).0 (no_more (exact binary64 x) L e).1 in
      let y = mul_sized binary64 0 4294967296 x D z difference_sized (lit≤ tt) in
      let s = sized_both (0 * 4294967296) (x *f D) y in
      let r = add_is binary64 (of_int binary64 a) (x *f D) (float_sized a ha).number y.number in
      let o = no_part P (exact binary64 (x *f D)) L s.0 s.1 in
      let w = between_of a a (of_int binary64 a +f x *f D) (P ⊕ exact binary64 (x *f D)) ha ha r o.0 o.1 in
      let q = scaled_between a a (of_int binary64 a +f x *f D) ha ha w.0 w.1 w.2 in
      le_antisymm q.1 q.0
    where
      no_more : (v : Whole) (U : ℕ) → Same v (0, 0) → AtMost v (0 * U, 0) × AtMost (0, 0 * U) v
      no_more v U e = omega arith

      no_part : (p y : Whole) (U : ℕ) → AtMost y (0 * 4294967296 * U, 0) → AtMost (0, 0 * 4294967296 * U) y → AtMost p (p ⊕ y) × AtMost (p ⊕ y) p
      no_part p y U h k = omega arith

-- ---- the cosine and the sine
module _ (k : Float) (f : T (fits binary64 k)) (h : small k ≡ true) where
  fraction : Fraction k (split_of k).floor (split_of k).frac
  fraction = split_frac k (small_number k f h).0

  frac_sized : Sized binary64 1 (split_of k).frac
  frac_sized = sized_at 1 (split_of k).frac fraction.number fraction.at_most (low_enough (exact binary64 (split_of k).frac) (1 * L) fraction.at_least)
    where
      low_enough : (v : Whole) (g : ℕ) → AtMost (0, 0) v → AtMost (0, g) v
      low_enough v g h = omega arith

  module _ (n : ℤ) where
    pub step_between : Between (step_units n) (step_units (n +ℤ pos 1)) (exact binary64 (between n (split_of k).frac))
    step_between = line_between (carried n) (carried (n +ℤ pos 1)) (size_most n) (size_most (n +ℤ pos 1)) (split_of k).frac frac_sized fraction.at_least

    pub step_whole : floor_of k ≡ k → Same (exact binary64 (between n (split_of k).frac)) (step_units n)
    step_whole e =
        line_none (carried n) (carried (n +ℤ pos 1)) (size_most n) (size_most (n +ℤ pos 1)) (split_of k).frac frac_sized fraction.at_least
        (whole_of (split_of k).frac (exact binary64 k ⊖ exact binary64 (floor_of k)) false 0 (sub_is binary64 k (floor_of k) (small_number k f h).0 (subst (Number binary64) (sym e) (small_number k f h).0)) (lit< tt)
        (subst (λ (y : Float). Same (exact binary64 k ⊖ exact binary64 y) (0 * L, 0)) (sym e) (nothing (exact binary64 k) L))).1
      where
        nothing : (v : Whole) (U : ℕ) → Same (v ⊖ v) (0 * U, 0)
        nothing v U = omega arith

  -- between two whole steps the cosine lies between their values
  pub cosine_between : Between (step_units (steps_of k)) (step_units (steps_of k +ℤ pos 1)) (exact binary64 (cosine_at k))
  unfolding cosine_at
  cosine_between = step_between (steps_of k)

  pub sine_between : Between (step_units (steps_of k -ℤ pos 1024)) (step_units (steps_of k -ℤ pos 1024 +ℤ pos 1)) (exact binary64 (sine_at k))
  unfolding sine_at
  sine_between = step_between (steps_of k -ℤ pos 1024)

  -- at a whole step it is the entry times 2 ^ -30
  pub cosine_whole : floor_of k ≡ k → Same (exact binary64 (cosine_at k)) (step_units (steps_of k))
  unfolding cosine_at
  cosine_whole = step_whole (steps_of k)

  pub sine_whole : floor_of k ≡ k → Same (exact binary64 (sine_at k)) (step_units (steps_of k -ℤ pos 1024))
  unfolding sine_at
  sine_whole = step_whole (steps_of k -ℤ pos 1024)
