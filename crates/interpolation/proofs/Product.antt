-- A fraction from 0 to 1 times a count, rounded once, lies from 0 to the count; and so do its floor and its nearest whole number. Assumes nothing.
use Rattle.std.proofs.Common.{◌≡◌, ℕ, suc, ◌+◌, ◌*◌, ◌^◌, ◌<◌, ◌≤◌, Bool, true, false, T, pos, sym, ap, ◌∙◌, subst, true≢false, le_of_suc-le-suc, lt_of_le_of_lt, mul-le-mul_right, zero-lt-suc, lt_of_mul-lt-mul_right, mul-lt-mul_of_pos_right, mul-pos, zero-mul, mul-one, le_of_mul-le-mul_right, arith, lit≤, pow_pos}
use lib.Ieee.{Float, nan, inf, fin, Format, binary32, binary64, prec, emax, low, up, down, round, lt, mul, of_int, to_unsigned}
use lib.Ieee.Back.{round_whole}
use lib.Ieee.Exact.{HasValue}
use lib.Ieee.Fits.{down_pos, round-fits}
use lib.Ieee.Order.{round_mono}
use lib.Ieee.Scale.{grid, round_same}
use Rattle.exact.specs.Doubles.{count, ◌*f◌}
use Rattle.exact.specs.Whole.{Whole, signed, ◌⊙◌, Same, Less, AtMost, Below}
use Rattle.exact.specs.Exact.{mag, exact, Number}
use Rattle.exact.proofs.Exact.{mag_exact, finite_of}
use Rattle.exact.proofs.Order.{le_exact}
use Rattle.exact.proofs.Products.{int_exact}
use Rattle.exact.proofs.Rounding.{round_near, round_finite}
use Rattle.whole.specs.Numbers.{Counted, Greatest, Nearest}
use Rattle.whole.specs.Rounded.{floor_of, round_of}
use Rattle.whole.proofs.Casts.{counted_unsigned}
use Rattle.whole.proofs.Counts.{floor_counted, round_counted, counted_below}
use Rattle.whole.proofs.Values.{floor_greatest, round_nearest}

-- v lies from 0 to n ones, of U units each
pub record UpTo (U n : ℕ) (v : Whole) : Type 0 where
  pub at_least : AtMost (0, 0) v
  pub at_most : AtMost v (n * U, 0)

-- ---- one rounding of what lies from 0 to n
fine : (f : Format) → prec f ≤ emax f
fine binary32 = lit≤ tt
fine binary64 = lit≤ tt

module _ (f : Format) (n : ℕ) (l : n < 2 ^ prec f) where
  plain : (a c : ℕ) → 0 < c → a ≤ n * c → Number f (round f false a c) × UpTo (2 ^ low f) n (exact f (round f false a c))
  plain a c C h =
      let r = round_near f false a c (prec f) C (lt_of_le_of_lt h (mul-lt-mul_of_pos_right l C)) (fine f) in
      let o : Number f (round f false n 1) = (finite_of (round f false n 1) false n 1 (round_whole f false n (omega arith)), round-fits f false n 1) in
      let g : exact f (round f false a c) ≡ signed false (grid f a c) = round_finite f false a c r.0.0 in (
        r.0,
        record {
          at_least = rw g (omega arith);
          at_most = subst (AtMost (exact f (round f false a c))) (int_exact f false n (omega arith)) ((le_exact f (round f false a c) (round f false n 1) r.0 o).0 (round_mono f a c n 1 C (zero-lt-suc 0) (omega arith)));
        },
      )

  -- a negative zero
  minus : (c : ℕ) → 0 < c → Number f (round f true 0 c) × UpTo (2 ^ low f) n (exact f (round f true 0 c))
  minus c C =
      let e : round f true 0 c ≡ round f true 0 1 = round_same f true 0 c 0 1 C (zero-lt-suc 0) (omega arith) in
      let v : exact f (round f true 0 1) ≡ (0, 0) = int_exact f true 0 (omega arith) ∙ ap (signed true) (zero-mul (2 ^ low f)) in
      rw (e, v) ((finite_of (round f true 0 1) true 0 1 (round_whole f true 0 (omega arith)), round-fits f true 0 1), record { at_least = omega arith; at_most = omega arith })

  -- num / den is at most 1, where it is so in units
  at_most_one : (L M a d : ℕ) → 0 < L → M * d ≡ a * L → M ≤ 1 * L → a ≤ d
  at_most_one L M a d P e h = le_of_mul-le-mul_right {m = a} {n = d} {k = L} (omega (arith, mul-le-mul_right d h)) P

  no_size : (L M a d : ℕ) → 0 < L → M * d ≡ a * L → M ≤ 0 → a ≡ 0
  no_size L M a d P e h = omega (arith, le_of_mul-le-mul_right {m = a} {n = 0} {k = L} (omega (arith, mul-le-mul_right d h)) P)

  pub times_up_to : (x y : Float) → Number f x → UpTo (2 ^ low f) 1 (exact f x) → HasValue y false n 1 → Number f (mul f x y) × UpTo (2 ^ low f) n (exact f (mul f x y))
  unfolding mul exact
  times_up_to nan y p u h = absurd p.0
  times_up_to (inf s) y p u h = absurd p.0
  times_up_to (fin s m e) nan p u h = absurd h
  times_up_to (fin s m e) (inf t) p u h = absurd h
  times_up_to (fin s m e) (fin true k d) p u h = absurd (true≢false h.0)
  times_up_to (fin false m e) (fin false k d) p u h =
      let x = fin false m e in
      let a : m * up e ≤ down e = at_most_one (2 ^ low f) (mag f x) (m * up e) (down e) (pow_pos (low f)) (mag_exact f x p.1) (omega (arith, u.at_most)) in
      let b : k * up d ≡ n * down d = sym (mul-one (k * up d)) ∙ h.1 in
      plain (m * up e * (k * up d)) (down e * down d) (mul-pos (down_pos e) (down_pos d)) (rw b (omega (arith, mul-le-mul_right (n * down d) a)))
  times_up_to (fin true m e) (fin false k d) p u h =
      let x = fin true m e in
      let a : m * up e ≡ 0 = no_size (2 ^ low f) (mag f x) (m * up e) (down e) (pow_pos (low f)) (mag_exact f x p.1) (omega (arith, u.at_least)) in
      rw (a, zero-mul (k * up d)) (minus (down e * down d) (mul-pos (down_pos e) (down_pos d)))

-- a fraction times a count
pub product_up_to : (n : ℕ) (x : Float) → n ≤ 1048576 → Number binary64 x → UpTo (2 ^ low binary64) 1 (exact binary64 x) → Number binary64 (x *f count n) × UpTo (2 ^ low binary64) n (exact binary64 (x *f count n))
unfolding of_int
product_up_to n x l p u = times_up_to binary64 n (few n l) x (count n) p u (round_whole binary64 false n (omega (arith, few n l)))
  where
    few : (n : ℕ) → n ≤ 1048576 → n < 2 ^ prec binary64
    few n l = omega arith

-- ---- made whole
floor_up_to : (U n : ℕ) (v w : Whole) → Greatest U v w → UpTo U n v → UpTo U n w
floor_up_to U n v w g u = record { at_least = omega (arith, g.greatest (0, 0) (omega (arith, u.at_least))); at_most = omega (arith, g.at_most, u.at_most) }

round_up_to : (U n : ℕ) (v w : Whole) → 0 < U → Nearest U v w → UpTo U n v → UpTo U n w
round_up_to U n v w P g u = rw g.to (go g.sign g.size g.ones (rw g.from at u.at_least) (rw g.from at u.at_most) g.over)
  where
    go : (s : Bool) (m k : ℕ) → AtMost (0, 0) (signed s m) → AtMost (signed s m) (n * U, 0) → 2 * (k * U) ≤ 2 * m + U → UpTo U n (signed s (k * U))
    go false m k a b h =
        let t : k < suc n = lt_of_mul-lt-mul_right U {m = k} {n = suc n} (omega arith) in
        record { at_least = omega arith; at_most = omega (arith, mul-le-mul_right {m = k} {n = n} U (omega arith)) }
    go true m k a b h =
        let t : k < 1 = lt_of_mul-lt-mul_right U {m = k} {n = 1} (omega arith) in
        let z : k ≡ 0 = omega arith in
        rw z (record { at_least = omega arith; at_most = omega arith })

up_to_below : (U n : ℕ) (v : Whole) → 0 < U → n ≤ 1048576 → UpTo U n v → Below (2097152 * U) v
up_to_below U n v P l u = omega (arith, u.at_least, u.at_most, mul-le-mul_right {m = n} {n = 1048576} U l)

-- the whole number y, from 0 to n
pub record WholeUpTo (n : ℕ) (y : Float) : Type 0 where
  pub counted : Counted 21 y
  pub up_to : UpTo (2 ^ low binary64) n (exact binary64 y)

module _ (n : ℕ) (p : Float) (l : n ≤ 1048576) (t : Number binary64 p) (u : UpTo (2 ^ low binary64) n (exact binary64 p)) where
  below : Below (2 ^ (21 + low binary64)) (exact binary64 p)
  below = up_to_below (2 ^ low binary64) n (exact binary64 p) (pow_pos (low binary64)) l u

  pub floor_whole : WholeUpTo n (floor_of p)
  floor_whole = record { counted = floor_counted 21 p t below; up_to = floor_up_to (2 ^ low binary64) n (exact binary64 p) (exact binary64 (floor_of p)) (floor_greatest p t).1 u }

  pub round_whole_up_to : WholeUpTo n (round_of p)
  round_whole_up_to = record { counted = round_counted 21 p t below; up_to = round_up_to (2 ^ low binary64) n (exact binary64 p) (exact binary64 (round_of p)) (pow_pos (low binary64)) (round_nearest p t).1 u }

-- as a count: what the cast asks, and that it is at most n
pub whole_cast : (n : ℕ) (y : Float) → WholeUpTo n y → T (lt (fin true 1 (pos 0)) y) × T (lt y (fin false 1 (pos 64))) × (to_unsigned 64 y ≤ n)
whole_cast n y w =
    let c = w.counted in
    let a = counted_unsigned 21 y c (lit≤ tt) w.up_to.at_least in
    (a.0, a.1, rw a.2 (le_of_suc-le-suc (counted_below 21 (suc n) y c w.up_to.at_least (under (2 ^ low binary64) (exact binary64 y) (pow_pos (low binary64)) w.up_to))))
  where
    under : (U : ℕ) (v : Whole) → 0 < U → UpTo U n v → Less v (suc n * U, 0)
    under U v P u = omega (arith, u.at_most)

-- and nothing is cut
pub whole_value : (n : ℕ) (y : Float) → WholeUpTo n y → Same (exact binary64 y) (2 ^ low binary64 ⊙ (to_unsigned 64 y, 0))
whole_value n y w =
    let c = w.counted in
    rw (counted_unsigned 21 y c (lit≤ tt) w.up_to.at_least).2 (subst (λ (v : Whole). Same v (2 ^ low binary64 ⊙ (c.ones, 0))) (sym c.value)
    (plain_value (2 ^ low binary64) c.sign c.ones (subst (AtMost (0, 0)) c.value w.up_to.at_least)))
  where
    plain_value : (U : ℕ) (s : Bool) (k : ℕ) → AtMost (0, 0) (signed s (k * U)) → Same (signed s (k * U)) (U ⊙ (k, 0))
    plain_value U false k h = omega arith
    plain_value U true k h = omega arith
