-- What the tests of points, factor and cutoff say, and that the sine is asked for less than 2 ^ 52 steps. Assumes nothing.
use Rattle.std.proofs.Common.{◌≡◌, ℕ, zero, suc, ◌+◌, ◌*◌, ◌/◌, ◌%◌, ◌^◌, ◌<◌, ◌≤◌, Bool, true, false, ◌&&◌, T, leb, sym, refl, subst, le_trans, mod-lt, mul_comm, div-lt_iff_lt-mul, mul-le-mul_left, mul-zero, le-div_iff_mul-le, zero-mul, le-mul_of_pos_right, arith, lit<, lit≤, leb-true}
use lib.Ieee.{Float, nan, inf, fin, binary64, low, fits, lt, le, round, of_int, of_bits}
use lib.Ieee.Back.{round_whole}
use Rattle.exact.specs.Doubles.{count, zero_f, one_f}
use Rattle.exact.specs.Whole.{Whole, signed, Less, AtMost}
use Rattle.exact.specs.Exact.{mag, exact, Number}
use Rattle.exact.proofs.Order.{lt_exact, le_exact}
use Rattle.exact.proofs.Sizes.{Sized, sized_of, mul_sized, div_sized, whole_sized, sub_sized}
use Rattle.error.proofs.Ladder.{both}
use Rattle.whole.specs.Small.{small}
use Rattle.window_points.proofs.Points.{sized_small}
use Rattle.sincs.specs.Sinc.{half_turn_f, steps_of, place_of}
use Rattle.sincs.specs.Table.{product_holds, cutoff_holds, value_no}

holds : {b : Bool} → b ≡ true → T b
holds h = subst T (sym h) tt

-- ---- the product
pub record Product (points factor : ℕ) : Type 0 where
  pub least : 2 ≤ points * factor
  pub most : points * factor ≤ 65536
  pub points_some : 0 < points
  pub factor_some : 0 < factor
  pub factor_most : factor ≤ 65536

pub product : (points factor : ℕ) → product_holds points factor ≡ true → Product points factor
product points factor h = go points factor (leb-true 2 (points * factor) b.0) (leb-true (points * factor) 65536 b.1)
  where
    b : (leb 2 (points * factor) ≡ true) × (leb (points * factor) 65536 ≡ true)
    b = both (leb 2 (points * factor)) (leb (points * factor) 65536) h

    go : (p f : ℕ) → 2 ≤ p * f → p * f ≤ 65536 → Product p f
    go zero f l m = absurd (omega (arith, zero-mul f))
    go (suc p) zero l m = absurd (omega (arith, mul-zero (suc p)))
    go (suc p) (suc f) l m = record { least = l; most = m; points_some = omega arith; factor_some = omega arith; factor_most = omega (arith, le-mul_of_pos_right {m = suc p} (suc f) (omega arith), mul_comm (suc f) (suc p)) }

-- by a division, at the limit itself, for crates/table
pub product_most : (p f : ℕ) → 0 < f → p ≤ 65536 / f → p * f ≤ 65536
product_most p f F h = (le-div_iff_mul-le {k = f} {x = p} {y = 65536} F).0 h

-- ---- the number of the value at entry j
module _ (points factor j : ℕ) (p : Product points factor) (h : j < points * factor) where
  pub row_inside : j / points < factor
  row_inside = (div-lt_iff_lt-mul {k = points} {x = j} {y = factor} p.points_some).1 (rw (mul_comm factor points) h)

  -- the places before it, and those of its own
  pub place_most : factor * (j % points) + factor ≤ points * factor
  place_most =
      let l : j % points + 1 ≤ points = omega (arith, mod-lt j p.points_some) in
      omega (arith, mul-le-mul_left factor l, mul_comm points factor)

  pub value_inside : value_no points factor j < points * factor
  value_inside = omega (arith, place_most, row_inside)

-- ---- the cutoff
zero_number : Number binary64 zero_f × (exact binary64 zero_f ≡ (0, 0))
unfolding of_bits exact fits
zero_number = ((tt, tt), refl)

one_number : Number binary64 one_f × (exact binary64 one_f ≡ (1 * 2 ^ low binary64, 0))
unfolding of_bits exact fits
one_number = ((tt, tt), refl)

up_to_one : (s : Bool) (g L : ℕ) → Less (0, 0) (signed s g) → AtMost (signed s g) (1 * L, 0) → g ≤ 1 * L
up_to_one false g L l k = omega arith
up_to_one true g L l k = absurd (omega arith)

between : (c : Float) → T (fits binary64 c) → T (lt zero_f c) → T (le c one_f) → Sized binary64 1 c
unfolding lt le of_bits exact
between nan t l k = absurd l
between (inf true) t l k = absurd l
between (inf false) t l k = absurd k
between (fin s m e) t l k =
    let n : Number binary64 (fin s m e) = (tt, t) in
    let g = mag binary64 (fin s m e) in
    sized_of binary64 1 (fin s m e) s g n refl
    (up_to_one s g (2 ^ low binary64)
    (subst (λ (v : Whole). Less v (signed s g)) zero_number.1 ((lt_exact binary64 zero_f (fin s m e) zero_number.0 n).0 l))
    (subst (AtMost (signed s g)) one_number.1 ((le_exact binary64 (fin s m e) one_f n one_number.0).0 k)))

pub cutoff_sized : (c : Float) → T (fits binary64 c) → cutoff_holds c ≡ true → Sized binary64 1 c
cutoff_sized c t h = let b = both (lt zero_f c) (le c one_f) h in between c t (holds b.0) (holds b.1)

-- ---- both tests
pub tests : (points factor : ℕ) (c : Float) → (product_holds points factor && cutoff_holds c) ≡ true → Product points factor × (cutoff_holds c ≡ true)
tests points factor c h = let b = both (product_holds points factor) (cutoff_holds c) h in (product points factor b.0, b.1)

-- what the code's two tests tell
pub joined : {a b c d : Bool} → a ≡ c → b ≡ d → (a && b) ≡ (c && d)
joined p q = rw (p, q)

-- ---- the steps of the sine
half_turn_is : half_turn_f ≡ round binary64 false 2048 1
unfolding of_bits round
half_turn_is = refl

pub steps_small : (tot factor x : ℕ) (c : Float) → tot ≤ 65536 → x < tot → 0 < factor → factor ≤ 65536 → Sized binary64 1 c → small (steps_of (place_of tot factor c x)) ≡ true
unfolding of_int
steps_small tot factor x c T X F M C =
    let d = sub_sized binary64 65536 x (tot / 2) (omega arith) (omega arith) (lit≤ tt) in
    let m = mul_sized binary64 65536 1 _ c d C (lit≤ tt) in
    let q = div_sized binary64 (65536 * 1) factor _ (count factor) m (round_whole binary64 false factor (le_trans M (lit≤ tt))) F (lit≤ tt) in
    let k : Sized binary64 (2048 * (65536 * 1)) (steps_of (place_of tot factor c x)) = mul_sized binary64 2048 (65536 * 1) half_turn_f _ (subst (Sized binary64 2048) (sym half_turn_is) (whole_sized binary64 false 2048 (lit≤ tt))) q (lit≤ tt) in
    sized_small (2048 * (65536 * 1)) _ k (lit< tt)
