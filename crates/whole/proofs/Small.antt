-- What it says of a double to be below 2 ^ 52 in size, and its floor as a whole number. Assumes nothing.
use mathlib.Core.Bool.{Bool, true, false, cond}
use mathlib.Core.Path.{◌≡◌, refl, sym, subst}
use Prim.Native.Nat.{ℕ, zero, suc, ◌+◌, ◌*◌, ◌^◌, ◌≤◌}
use native.Mathlib.Omega.{arith}
use lib.Dec.{T, lit≤}
use lib.IntN.{ℤ, pos, neg_ℤ, nat_abs}
use lib.Ieee.{Float, nan, inf, fin, binary64, low, fits, lt, le, neg, of_bits, to_signed}
use lib.Ieee.Fits.{and_i, and_l, and_r}
use lib.Ieee.Scale.{finite}
use Rattle.exact.specs.Whole.{Whole, signed, ◌⊙◌, Same, Less, Below}
use Rattle.exact.specs.Exact.{exact, Number}
use Rattle.exact.specs.Integers.{pair_of}
use Rattle.exact.proofs.Order.{lt_exact}
use Rattle.whole.specs.Rounded.{floor_of}
use Rattle.whole.specs.Small.{limit_f, small}
use Rattle.whole.proofs.Casts.{counted_signed}
use Rattle.whole.proofs.Counts.{floor_counted}

pub limit_f_is : limit_f ≡ fin false 1 (pos 52)
unfolding of_bits
limit_f_is = refl

-- a number, below 2 ^ 52 in size
finite_between : (s r : Bool) (m n : ℕ) (e d : ℤ) (t : Float) → T (lt (fin s m e) t) → T (lt t (fin r n d)) → T (finite t)
unfolding lt
finite_between s r m n e d nan h k = absurd k
finite_between s r m n e d (inf true) h k = absurd h
finite_between s r m n e d (inf false) h k = absurd k
finite_between s r m n e d (fin q p c) h k = tt

both : (B : ℕ) (lo v hi : Whole) → lo ≡ (0, B) → hi ≡ (B, 0) → Less lo v → Less v hi → Below B v
both B lo v hi p q h k =
    let a : Less (0, B) v = subst (λ (u : Whole). Less u v) p h in
    let b : Less v (B, 0) = subst (Less v) q k in
    omega arith

pub small_number : (t : Float) → T (fits binary64 t) → small t ≡ true → Number binary64 t × Below (2 ^ (52 + low binary64)) (exact binary64 t)
unfolding of_bits neg exact fits
small_number t f h =
    let a = subst T (sym h) tt in
    let l : T (lt (fin true 1 (pos 52)) t) = and_l (lt (neg limit_f) t) (lt t limit_f) a in
    let u : T (lt t (fin false 1 (pos 52))) = and_r (lt (neg limit_f) t) (lt t limit_f) a in
    let n : Number binary64 t = (finite_between true false 1 1 (pos 52) (pos 52) t l u, f) in (
      n,
      both (2 ^ (52 + low binary64)) (exact binary64 (fin true 1 (pos 52))) (exact binary64 t) (exact binary64 (fin false 1 (pos 52))) refl refl
          ((lt_exact binary64 (fin true 1 (pos 52)) t (tt, tt) n).0 l) ((lt_exact binary64 t (fin false 1 (pos 52)) n (tt, tt)).0 u),
    )

apart : (B : ℕ) (lo v hi : Whole) → lo ≡ (0, B) → hi ≡ (B, 0) → Below B v → Less lo v × Less v hi
apart B lo v hi p q h = (rw p (omega arith), rw q (omega arith))

pub is_small : (t : Float) → Number binary64 t → Below (2 ^ (52 + low binary64)) (exact binary64 t) → small t ≡ true
unfolding of_bits neg exact fits
is_small t n h =
    let w = apart (2 ^ (52 + low binary64)) (exact binary64 (fin true 1 (pos 52))) (exact binary64 t) (exact binary64 (fin false 1 (pos 52))) refl refl h in
    passed (small t) (and_i (lt (neg limit_f) t) (lt t limit_f) ((lt_exact binary64 (fin true 1 (pos 52)) t (tt, tt) n).1 w.0) ((lt_exact binary64 t (fin false 1 (pos 52)) n (tt, tt)).1 w.1))
  where
    passed : (b : Bool) → T b → b ≡ true
    passed true t = refl
    passed false t = absurd t

-- ---- the floor, as a whole number
signed_abs : (s : Bool) (n b : ℕ) → n ≤ b → nat_abs (cond s (neg_ℤ (pos n)) (pos n)) ≤ b
signed_abs false n b h = h
signed_abs true zero b h = h
signed_abs true (suc n) b h = h

-- what the cast of floor(t) asks, and its size
pub floor_cast : (t : Float) → T (fits binary64 t) → small t ≡ true
    → T (le (fin true 1 (pos 63)) (floor_of t)) × T (lt (floor_of t) (fin false 1 (pos 63))) × (nat_abs (to_signed 63 (floor_of t)) ≤ 4503599627370496)
floor_cast t f h =
    let n = small_number t f h in
    let c = floor_counted 52 t n.0 n.1 in
    let s = counted_signed 52 (floor_of t) c (lit≤ tt) in
    (s.0, s.1, rw s.2 (signed_abs c.sign c.ones 4503599627370496 c.at_most))

-- n ones of U units each, with a sign
ones_value : (U : ℕ) (s : Bool) (n : ℕ) → Same (signed s (n * U)) (U ⊙ pair_of (cond s (neg_ℤ (pos n)) (pos n)))
ones_value U false n = omega arith
ones_value U true zero = omega arith
ones_value U true (suc n) = omega arith

-- nothing is cut: the whole number is the value of floor(t)
pub floor_value : (t : Float) → T (fits binary64 t) → small t ≡ true → Same (exact binary64 (floor_of t)) (2 ^ low binary64 ⊙ pair_of (to_signed 63 (floor_of t)))
floor_value t f h =
    let n = small_number t f h in
    let c = floor_counted 52 t n.0 n.1 in
    rw (c.value, (counted_signed 52 (floor_of t) c (lit≤ tt)).2) (ones_value (2 ^ low binary64) c.sign c.ones)
