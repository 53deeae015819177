-- The limit is the exact number that it stands for, and so comparing an index with it is comparing the exact positions. Assumes nothing.
use Rattle.std.proofs.Common.{◌≡◌, ℕ, ◌+◌, ◌-◌, ◌*◌, ◌^◌, ◌<◌, ◌≤◌, min, Bool, true, false, cond, T, leb, ◌⊎◌, ◌↔◌, sym, refl, ap, ◌∙◌, subst, inl, inr, le_trans, lt_trans, mul-le-mul_right, mul-lt-mul_of_pos_right, arith, lit<, lit≤, pow_pos, pow-add, leb-false, leb-true}
use mathlib.Core.Bool.{false≢true}
use lib.Ieee.{Float, nan, inf, fin, binary64, low, neg, lt, fits, of_bits}
use lib.Ieee.Back.{round_whole}
use lib.Ieee.Bits.{is_true}
use lib.Ieee.Fits.{sub-fits}
use lib.Ieee.Scale.{finite, overflow}
use Rattle.exact.specs.Doubles.{◌-f◌, count}
use Rattle.exact.specs.Whole.{Whole, ◌⊕◌, ◌⊖◌, Same, Less, Below}
use Rattle.exact.specs.Exact.{exact, Number}
use Rattle.exact.specs.Rounding.{RoundOf}
use Rattle.exact.proofs.Order.{lt_exact}
use Rattle.exact.proofs.Sums.{sub_is, keeps_of}
use Rattle.whole.proofs.Units.{whole_exact, whole_number}
use Rattle.cut.specs.Cut.{margin_f, limit_of}
use Rattle.cut.specs.Positions.{placed, edge_of}

-- ---- the margin, with either sign, and a count, in units of 2 ^ -1074
margin_exact : Number binary64 margin_f × (exact binary64 margin_f ≡ (2 ^ 1054, 0))
unfolding of_bits exact fits
margin_exact = ((tt, tt), refl)

start_exact : Number binary64 (neg margin_f) × (exact binary64 (neg margin_f) ≡ (0, 2 ^ 1054))
unfolding neg of_bits exact fits
start_exact = ((tt, tt), refl)

count_exact : (n : ℕ) → n ≤ 2 ^ 53 → Number binary64 (count n) × (exact binary64 (count n) ≡ (n * 2 ^ 1074, 0))
count_exact n h = let v = round_whole binary64 false n h in (whole_number false n v, whole_exact false n v)

-- U units are the margin, and 2 ^ 20 times as many make one
module _ (n q U : ℕ) where
  behind_same : q ≡ n * 1048576 + 1 → Same (0, q * U) ((0, U) ⊖ (n * (1048576 * U), 0))
  behind_same e = omega (arith, ap (λ (z : ℕ). z * U) e)

  ahead_same : q + 1 ≡ n * 1048576 → Same (q * U, 0) ((n * (1048576 * U), 0) ⊖ (U, 0))
  ahead_same e = omega (arith, ap (λ (z : ℕ). z * U) e)

under : (q : ℕ) → q < 2 ^ 39 → q * 2 ^ 1054 < overflow binary64
under q h = lt_trans (mul-lt-mul_of_pos_right h (pow_pos 1054)) (lit< tt)

module _ (x : Float) (v : Whole) (p : Number binary64 x) (e : exact binary64 x ≡ v) where
  behind_of : RoundOf binary64 (neg margin_f -f x) ((0, 2 ^ 1054) ⊖ v)
  behind_of =
      subst (λ (w : Whole). RoundOf binary64 (neg margin_f -f x) (w ⊖ v)) start_exact.1
      (subst (λ (w : Whole). RoundOf binary64 (neg margin_f -f x) (exact binary64 (neg margin_f) ⊖ w)) e (sub_is binary64 (neg margin_f) x start_exact.0 p))

  ahead_of : RoundOf binary64 (x -f margin_f) (v ⊖ (2 ^ 1054, 0))
  ahead_of =
      subst (λ (w : Whole). RoundOf binary64 (x -f margin_f) (v ⊖ w)) margin_exact.1
      (subst (λ (w : Whole). RoundOf binary64 (x -f margin_f) (w ⊖ exact binary64 margin_f)) e (sub_is binary64 x margin_f p margin_exact.0))

-- ---- neither rounds anything off
-- a and b are n ones ahead and behind: one of them is 0
abbrev Worth : Float → ℕ → ℕ → Type 0
Worth y a b = Number binary64 y × Same (exact binary64 y) (a * 2 ^ 1074, b * 2 ^ 1074 + 2 ^ 1054)

ahead_tidy : (O U n : ℕ) (v : Whole) → Same v ((n * O, 0) ⊖ (U, 0)) → Same v (n * O, 0 * O + U)
ahead_tidy O U n v h = omega arith

behind_tidy : (O U n : ℕ) (v : Whole) → Same v ((0, U) ⊖ (n * O, 0)) → Same v (0 * O, n * O + U)
behind_tidy O U n v h = omega arith

behind_exact : (n : ℕ) → n ≤ 262144 → Worth (neg margin_f -f count n) 0 n
behind_exact n h =
    let c = count_exact n (le_trans h (lit≤ tt)) in
    let q = n * 1048576 + 1 in
    let y = neg margin_f -f count n in
    let r = keeps_of binary64 y ((0, 2 ^ 1054) ⊖ (n * 2 ^ 1074, 0)) true q 1054 (behind_of (count n) (n * 2 ^ 1074, 0) c.0 c.1) (behind_same n q (2 ^ 1054) refl) (omega arith) (under q (omega arith)) in
    ((r.0, sub-fits binary64 (neg margin_f) (count n)), behind_tidy (2 ^ 1074) (2 ^ 1054) n (exact binary64 y) r.1)

ahead_exact : (n : ℕ) → 0 < n → n ≤ 262144 → Worth (count n -f margin_f) n 0
ahead_exact n p h =
    let c = count_exact n (le_trans h (lit≤ tt)) in
    let q = n * 1048576 - 1 in
    let y = count n -f margin_f in
    let r = keeps_of binary64 y ((n * 2 ^ 1074, 0) ⊖ (2 ^ 1054, 0)) false q 1054 (ahead_of (count n) (n * 2 ^ 1074, 0) c.0 c.1) (ahead_same n q (2 ^ 1054) (omega arith)) (omega arith) (under q (omega arith)) in
    ((r.0, sub-fits binary64 (count n) margin_f), ahead_tidy (2 ^ 1074) (2 ^ 1054) n (exact binary64 y) r.1)

-- the limit is edge - used - 2^-20, both differences being at most 2^18
pub limit_exact : (used edge : ℕ) → Worth (limit_of used edge) (min (edge - used) 262144) (min (used - edge) 262144)
limit_exact used edge = go (leb edge used) refl
  where
    go : (b : Bool) → leb edge used ≡ b → Worth (cond b (neg margin_f -f count (min (used - edge) 262144)) (count (min (edge - used) 262144) -f margin_f)) (min (edge - used) 262144) (min (used - edge) 262144)
    go true h =
        let z : min (edge - used) 262144 ≡ 0 = omega (arith, leb-true edge used h) in
        rw z (behind_exact (min (used - edge) 262144) (omega arith))
    go false h =
        let l = leb-false edge used h in
        let z : min (used - edge) 262144 ≡ 0 = omega arith in
        rw z (ahead_exact (min (edge - used) 262144) (omega arith) (omega arith))

-- ---- v below the limit is v + used below edge - 2^-20: one has O units, the margin U, and |v| is below 2^17 ones
near_or_far : (m : ℕ) → (min m 262144 ≡ m) ⊎ ((min m 262144 ≡ 262144) × (262144 ≤ m))
near_or_far m = go (leb m 262144) refl
  where
    go : (b : Bool) → leb m 262144 ≡ b → (min m 262144 ≡ m) ⊎ ((min m 262144 ≡ 262144) × (262144 ≤ m))
    go true h = let l = leb-true m 262144 h in inl (omega arith)
    go false h = let l = leb-false m 262144 h in inr (omega arith)

module _ (O U m : ℕ) (v : Whole) (h : U ≤ O) (k : 0 < O) (B : Below (131072 * O) v) where
  behind_iff : Less v (0 * O, min m 262144 * O + U) ↔ Less ((m * O, 0) ⊕ v) (0, U)
  behind_iff =
      elim (near_or_far m) [
        | inl e ↦ rw e ((λ l. omega arith), (λ l. omega arith))
        | inr e ↦ rw e.0 ((λ l. absurd (omega arith)), (λ l. absurd (omega (arith, mul-le-mul_right O e.1))))
      ]

  ahead_iff : Less v (min m 262144 * O, 0 * O + U) ↔ Less v (m * O, U)
  ahead_iff =
      elim (near_or_far m) [
        | inl e ↦ rw e ((λ l. omega arith), (λ l. omega arith))
        | inr e ↦ rw e.0 ((λ l. omega (arith, mul-le-mul_right O e.1)), (λ l. omega arith))
      ]

shifted : (O U used edge : ℕ) (v : Whole) → U ≤ O → 0 < O → Below (131072 * O) v
    → Less v (min (edge - used) 262144 * O, min (used - edge) 262144 * O + U) ↔ Less ((used * O, 0) ⊕ v) (edge * O, U)
shifted O U used edge v h k B = go (leb edge used) refl
  where
    go : (b : Bool) → leb edge used ≡ b → Less v (min (edge - used) 262144 * O, min (used - edge) 262144 * O + U) ↔ Less ((used * O, 0) ⊕ v) (edge * O, U)
    go true t =
        let l = leb-true edge used t in
        let z : min (edge - used) 262144 ≡ 0 = omega arith in
        let e : used ≡ edge + (used - edge) = omega arith in
        let i = behind_iff O U (used - edge) v h k B in
        let n = ap (λ (y : ℕ). y * O) e in
        rw z ((λ s. let r = i.0 s in omega (arith, n)), (λ s. i.1 (omega (arith, n))))
    go false t =
        let l = leb-false edge used t in
        let z : min (used - edge) 262144 ≡ 0 = omega arith in
        let e : edge ≡ used + (edge - used) = omega arith in
        let i = ahead_iff O U (edge - used) v h k B in
        let n = ap (λ (y : ℕ). y * O) e in
        rw z ((λ s. let r = i.0 s in omega (arith, n)), (λ s. i.1 (omega (arith, n))))

-- an index below 2^17 in size lies below the limit just where its position lies before the edge
pub limit_iff : (used edge : ℕ) (x : Float) → Number binary64 x → Below (2 ^ (17 + low binary64)) (exact binary64 x)
    → T (lt x (limit_of used edge)) ↔ Less (placed used x) (edge_of edge)
limit_iff used edge x p b =
    let w = limit_exact used edge in
    let v = exact binary64 x in
    let o = lt_exact binary64 x (limit_of used edge) p w.0 in
    let i = shifted (2 ^ 1074) (2 ^ 1054) used edge v (lit≤ tt) (pow_pos 1074) (subst (λ (z : ℕ). Below z v) (pow-add 2 17 1074) b) in
    ((λ h. i.0 (like v _ _ (o.0 h) w.1)), (λ h. o.1 (alike v _ _ (i.1 h) w.1)))
  where
    like : (v w u : Whole) → Less v w → Same w u → Less v u
    like v w u l s = omega arith

    alike : (v w u : Whole) → Less v u → Same w u → Less v w
    alike v w u l s = omega arith

-- ---- a later edge has no lower limit
low_least : (y : Float) → T (finite y) → lt (inf true) y ≡ true
unfolding lt
low_least nan t = absurd t
low_least (inf s) t = absurd t
low_least (fin s m e) t = refl

high_most : (y : Float) → lt (inf false) y ≡ false
unfolding lt
high_most nan = refl
high_most (inf s) = refl
high_most (fin s m e) = refl

raised : (O U a b c d : ℕ) (v w u : Whole) → a ≤ c → d ≤ b → Same w (a * O, b * O + U) → Same u (c * O, d * O + U) → Less v w → Less v u
raised O U a b c d v w u p q h k l = omega (arith, mul-le-mul_right O p, mul-le-mul_right O q)

pub limit_rises : (used edge : ℕ) (x : Float) → T (fits binary64 x) → lt x (limit_of used 0) ≡ true → lt x (limit_of used edge) ≡ true
unfolding lt
limit_rises used edge nan t h = absurd (false≢true h)
limit_rises used edge (inf true) t h = low_least (limit_of used edge) (limit_exact used edge).0.0
limit_rises used edge (inf false) t h = absurd (false≢true (sym (high_most (limit_of used 0)) ∙ h))
limit_rises used edge (fin s m e) t h =
    let x = fin s m e in
    let a = limit_exact used 0 in
    let b = limit_exact used edge in
    let l = (lt_exact binary64 x (limit_of used 0) (tt, t) a.0).0 (subst T (sym h) tt) in
    is_true (lt x (limit_of used edge)) ((lt_exact binary64 x (limit_of used edge) (tt, t) b.0).1
    (raised (2 ^ 1074) (2 ^ 1054) _ _ _ _ (exact binary64 x) _ _ (omega arith) (omega arith) a.1 b.1 l))
