-- What floor, ceiling, truncation and rounding say of numbers, by exact values; each is exact. `ceil_least` and `trunc_toward` are for a reader. Assumes nothing.
use mathlib.Core.Bool.{Bool, true, false, cond}
use mathlib.Core.Path.{◌≡◌, refl, sym, subst}
use Prim.Native.Nat.{ℕ, suc, ◌+◌, ◌*◌, ◌/◌, ◌%◌, ◌^◌, ◌≤◌, ◌<◌}
use native.Mathlib.Nat.{lt_of_mul-lt-mul_left, mul-le-mul_left}
use native.Mathlib.Omega.{arith}
use borrow.Author.Tests.{eqb-true, eqb-false, leb-true, leb-false}
use lib.Dec.{T, eqb, leb}
use lib.IntN.{ℤ}
use lib.Ieee.{Float, nan, inf, fin, binary64, low, up, down, fits}
use lib.Ieee.Fits.{down_pos}
use Rattle.exact.specs.Whole.{Whole, signed, ◌⊕◌, ◌⊙◌, Same, Less, AtMost}
use Rattle.exact.specs.Exact.{mag, exact, Number}
use Rattle.whole.specs.Rounded.{whole_f, made_whole, part_div, over_div, near_div, floor_of, ceil_of, trunc_of, round_of}
use Rattle.whole.specs.Numbers.{Greatest, Least, Toward, Nearest}
use Rattle.whole.proofs.Held.{Next, next_value}
use Rattle.whole.proofs.Divisions.{near_is, part_next, over_next, near_next}
use Rattle.whole.proofs.Units.{Shared, shared, ones_le, ones_lt, ones_next, ones_rest, half_over, half_under, whole_exact, whole_number}

-- ---- the bounds of each division, in units
module _ {M U a d : ℕ} (o : Shared M U a d (a / d) (a % d)) where
  pub part_bounds : (part_div a d * U ≤ M) × (M < part_div a d * U + U)
  part_bounds = (ones_le o, ones_next o)

  pub over_bounds : (M ≤ over_div a d * U) × (over_div a d * U < M + U)
  over_bounds = go (eqb (a % d) 0) refl
    where
      go : (b : Bool) → eqb (a % d) 0 ≡ b → (M ≤ cond b (a / d) (suc (a / d)) * U) × (cond b (a / d) (suc (a / d)) * U < M + U)
      go true h =
          let z = eqb-true (a % d) 0 h in
          let e = ones_rest o 0 (rw z (omega arith)) in
          omega (arith, o.one)
      go false h =
          let z = eqb-false (a % d) 0 h in
          omega (arith, ones_next o, ones_lt o (omega arith))

  pub near_bounds : (2 * (near_div a d * U) ≤ 2 * M + U) × (2 * M < 2 * (near_div a d * U) + U)
  near_bounds = rw (near_is a d o.some) (go (leb d (2 * (a % d))) refl)
    where
      go : (b : Bool) → leb d (2 * (a % d)) ≡ b → (2 * (cond b (suc (a / d)) (a / d) * U) ≤ 2 * M + U) × (2 * M < 2 * (cond b (suc (a / d)) (a / d) * U) + U)
      go true h = let l = leb-true d (2 * (a % d)) h in omega (arith, half_over o l, ones_next o)
      go false h = let l = leb-false d (2 * (a % d)) h in omega (arith, half_under o l, ones_le o)

-- ---- with a sign
-- U units make one, and w is so many ones as j says
module _ (U : ℕ) (v w j : Whole) (e : Same w (U ⊙ j)) where
  pub greatest_of : AtMost w v → Less v (w ⊕ (U, 0)) → Greatest U v w
  greatest_of h l = record { whole = record { ones = j; is = e }; at_most = h; near = l; greatest = go }
    where
      go : (k : Whole) → AtMost (U ⊙ k) v → AtMost (U ⊙ k) w
      go k g =
          let p : U * (k.0 + j.1) < U * (j.0 + 1 + k.1) = omega arith in
          let q : k.0 + j.1 ≤ j.0 + k.1 = omega (arith, lt_of_mul-lt-mul_left U p) in
          omega (arith, mul-le-mul_left U q)

  pub least_of_lem : AtMost v w → Less w (v ⊕ (U, 0)) → Least U v w
  least_of_lem h l = record { whole = record { ones = j; is = e }; at_least = h; near = l; least = go }
    where
      go : (k : Whole) → AtMost v (U ⊙ k) → AtMost w (U ⊙ k)
      go k g =
          let p : U * (j.0 + k.1) < U * (k.0 + 1 + j.1) = omega arith in
          let q : j.0 + k.1 ≤ k.0 + j.1 = omega (arith, lt_of_mul-lt-mul_left U p) in
          omega (arith, mul-le-mul_left U q)

-- the size M with the sign s, between n ones and the next
module _ (U M n : ℕ) where
  down_plain : (n * U ≤ M) × (M < n * U + U) → Greatest U (M, 0) (n * U, 0)
  down_plain h = greatest_of U (M, 0) (n * U, 0) (n, 0) (omega arith) (omega arith) (omega arith)

  down_minus : (M ≤ n * U) × (n * U < M + U) → Greatest U (0, M) (0, n * U)
  down_minus h = greatest_of U (0, M) (0, n * U) (0, n) (omega arith) (omega arith) (omega arith)

  up_plain : (M ≤ n * U) × (n * U < M + U) → Least U (M, 0) (n * U, 0)
  up_plain h = least_of_lem U (M, 0) (n * U, 0) (n, 0) (omega arith) (omega arith) (omega arith)

  up_minus : (n * U ≤ M) × (M < n * U + U) → Least U (0, M) (0, n * U)
  up_minus h = least_of_lem U (0, M) (0, n * U) (0, n) (omega arith) (omega arith) (omega arith)

-- ---- as doubles: P is what is to be said of the exact value of a whole number next to x
next_is : (P : Whole → Type 0) (s : Bool) (m : ℕ) (e : ℤ) (n : ℕ) → T (fits binary64 (fin s m e)) → Next (m * up e) (down e) n
    → P (signed s (n * 2 ^ low binary64)) → Number binary64 (whole_f s n) × P (exact binary64 (whole_f s n))
next_is P s m e n t h p =
    let v = next_value binary64 s m e n t h in
    (whole_number s n v, subst P (sym (whole_exact s n v)) p)

-- the whole number next to x toward zero, and away from it
module _ (P : Whole → Type 0) (s : Bool) (m : ℕ) (e : ℤ) (t : T (fits binary64 (fin s m e))) where
  part_is : ((part_div (m * up e) (down e) * 2 ^ low binary64 ≤ mag binary64 (fin s m e)) × (mag binary64 (fin s m e) < part_div (m * up e) (down e) * 2 ^ low binary64 + 2 ^ low binary64) → P (signed s (part_div (m * up e) (down e) * 2 ^ low binary64)))
      → Number binary64 (whole_f s (part_div (m * up e) (down e))) × P (exact binary64 (whole_f s (part_div (m * up e) (down e))))
  part_is k = next_is P s m e (part_div (m * up e) (down e)) t (part_next (m * up e) (down e)) (k (part_bounds (shared binary64 s m e t)))

  over_is : ((mag binary64 (fin s m e) ≤ over_div (m * up e) (down e) * 2 ^ low binary64) × (over_div (m * up e) (down e) * 2 ^ low binary64 < mag binary64 (fin s m e) + 2 ^ low binary64) → P (signed s (over_div (m * up e) (down e) * 2 ^ low binary64)))
      → Number binary64 (whole_f s (over_div (m * up e) (down e))) × P (exact binary64 (whole_f s (over_div (m * up e) (down e))))
  over_is k = next_is P s m e (over_div (m * up e) (down e)) t (over_next (m * up e) (down e)) (k (over_bounds (shared binary64 s m e t)))

-- the greatest whole number not above x
pub floor_greatest : (x : Float) → Number binary64 x → Number binary64 (floor_of x) × Greatest (2 ^ low binary64) (exact binary64 x) (exact binary64 (floor_of x))
unfolding made_whole exact
floor_greatest nan t = absurd t.0
floor_greatest (inf s) t = absurd t.0
floor_greatest (fin false m e) t = part_is (Greatest (2 ^ low binary64) (exact binary64 (fin false m e))) false m e t.1 (down_plain _ _ _)
floor_greatest (fin true m e) t = over_is (Greatest (2 ^ low binary64) (exact binary64 (fin true m e))) true m e t.1 (down_minus _ _ _)

-- the least whole number not below x
pub ceil_least : (x : Float) → Number binary64 x → Number binary64 (ceil_of x) × Least (2 ^ low binary64) (exact binary64 x) (exact binary64 (ceil_of x))
unfolding made_whole exact
ceil_least nan t = absurd t.0
ceil_least (inf s) t = absurd t.0
ceil_least (fin false m e) t = over_is (Least (2 ^ low binary64) (exact binary64 (fin false m e))) false m e t.1 (up_plain _ _ _)
ceil_least (fin true m e) t = part_is (Least (2 ^ low binary64) (exact binary64 (fin true m e))) true m e t.1 (up_minus _ _ _)

-- toward zero, with the sign of x
pub trunc_toward : (x : Float) → Number binary64 x → Number binary64 (trunc_of x) × Toward (2 ^ low binary64) (exact binary64 x) (exact binary64 (trunc_of x))
unfolding made_whole exact
trunc_toward nan t = absurd t.0
trunc_toward (inf s) t = absurd t.0
trunc_toward (fin s m e) t =
    let x = fin s m e in
    part_is (Toward (2 ^ low binary64) (exact binary64 x)) s m e t.1
    (λ h. record { sign = s; size = mag binary64 x; ones = part_div (m * up e) (down e); from = refl; to = refl; at_most = h.0; near = h.1 })

-- the nearest, a half away from zero
pub round_nearest : (x : Float) → Number binary64 x → Number binary64 (round_of x) × Nearest (2 ^ low binary64) (exact binary64 x) (exact binary64 (round_of x))
unfolding made_whole exact
round_nearest nan t = absurd t.0
round_nearest (inf s) t = absurd t.0
round_nearest (fin s m e) t =
    let x = fin s m e in
    let n = near_div (m * up e) (down e) in
    let h = near_bounds (shared binary64 s m e t.1) in
    next_is (Nearest (2 ^ low binary64) (exact binary64 x)) s m e n t.1 (near_next (m * up e) (down e) (down_pos e))
    (record { sign = s; size = mag binary64 x; ones = n; from = refl; to = refl; over = h.0; under = h.1 })
