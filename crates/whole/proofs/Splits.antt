-- The fraction that `split` gives is from 0 to 1, both among them; above 0 it is exact. Assumes nothing.
use mathlib.Core.Bool.{true, false}
use mathlib.Core.Logic.{inl}
use mathlib.Core.Path.{◌≡◌, refl, sym, ap, ◌∙◌, subst}
use Prim.Native.Nat.{ℕ, suc, ◌+◌, ◌*◌, ◌/◌, ◌^◌}
use native.Mathlib.Nat.{one-mul, zero-lt-suc}
use native.Mathlib.Omega.{arith}
use lib.Dec.{T, lit≤}
use lib.Ieee.{Float, nan, inf, fin, Format, binary64, prec, low, emax, up, down, round, le, lt}
use lib.Ieee.Back.{round_whole}
use lib.Ieee.Fits.{round-fits}
use lib.Ieee.Order.{round_mono}
use lib.Ieee.Scale.{finite, grid}
use lib.Pow.{pow_pos}
use Rattle.exact.specs.Doubles.{zero_f, ◌-f◌}
use Rattle.exact.specs.Whole.{Whole, signed, ◌⊖◌, Same, Less, AtMost, Below}
use Rattle.exact.specs.Exact.{mag, exact, Number}
use Rattle.exact.specs.Rounding.{RoundOf}
use Rattle.exact.proofs.Exact.{finite_of}
use Rattle.exact.proofs.Sums.{sub_is, near_of, keeps_of}
use Rattle.exact.proofs.Order.{le_exact}
use Rattle.exact.proofs.Rounding.{round_finite}
use Rattle.exact.proofs.Products.{int_exact}
use Rattle.whole.specs.Rounded.{whole_f, made_whole, floor_of, trunc_of, split_of}
use Rattle.whole.specs.Numbers.{Greatest, Fraction}
use Rattle.whole.proofs.Held.{next_value}
use Rattle.whole.proofs.Units.{whole_exact}
use Rattle.whole.proofs.Fraction.{sub_part}
use Rattle.whole.proofs.Signs.{floor_size}
use Rattle.whole.proofs.Values.{floor_greatest}

-- ---- what is rounded once to y lies from 0 up to 1, and so does y
between : (f : Format) (y : Float) (v : Whole) → RoundOf f y v → Number f y → AtMost (0, 0) v → AtMost v (2 ^ low f, 0) → AtMost (0, 0) (exact f y) × AtMost (exact f y) (2 ^ low f, 0)
between f y v (false, a, e, w) t h l =
    let o = round f false 1 1 in
    let i : exact f o ≡ (2 ^ low f, 0) = int_exact f false 1 (pow_pos (prec f)) ∙ ap (signed false) (one-mul (2 ^ low f)) in
    let c : T (le y o) = rw e (round_mono f a (2 ^ low f) 1 1 (pow_pos (low f)) (zero-lt-suc 0) (omega arith)) in
    let n : Number f o = (finite_of o false 1 1 (round_whole f false 1 (pow_pos (prec f))), round-fits f false 1 1) in
    let g : exact f y ≡ signed false (grid f a (2 ^ low f)) = rw e (round_finite f false a (2 ^ low f) (subst (λ (z : Float). T (finite z)) e t.0)) in
    (rw g (omega arith), subst (AtMost (exact f y)) i ((le_exact f y o t n).0 c))
between f y v (true, a, e, w) t h l =
    let k = keeps_of f y v false 0 0 (true, a, e, w) (omega arith) (pow_pos (prec f)) (pow_pos (low f + suc (emax f))) in
    omega (arith, k.1)

less_than_one : (U : ℕ) (v w : Whole) → Greatest U v w → Below U (v ⊖ w) × AtMost (0, 0) (v ⊖ w) × AtMost (v ⊖ w) (U, 0)
less_than_one U v w g = omega (arith, g.at_most, g.near)

module _ (x : Float) (t : Number binary64 x) where
  pub split_frac : Fraction x (split_of x).floor (split_of x).frac
  split_frac =
      let w = floor_greatest x t in
      let v = exact binary64 x ⊖ exact binary64 (floor_of x) in
      let o = less_than_one (2 ^ low binary64) (exact binary64 x) (exact binary64 (floor_of x)) w.1 in
      let r = sub_is binary64 x (floor_of x) t w.0 in
      let n = near_of binary64 0 (x -f floor_of x) v r (lit≤ tt) o.0 in
      let b = between binary64 (x -f floor_of x) v r n.0 o.1 o.2 in
      record { number = n.0; at_least = b.0; at_most = b.1; near = n.1 }

-- ---- where nothing is rounded
-- x beside its whole part is exact
pub trunc_rest : (x : Float) → Number binary64 x → Number binary64 (x -f trunc_of x) × Same (exact binary64 (x -f trunc_of x)) (exact binary64 x ⊖ exact binary64 (trunc_of x))
unfolding made_whole exact
trunc_rest nan t = absurd t.0
trunc_rest (inf s) t = absurd t.0
trunc_rest (fin s m e) t =
    let x = fin s m e in
    let n = m * up e / down e in
    let w = sub_part s m e t.1 in
    (w.0, subst (λ (u : Whole). Same (exact binary64 (x -f whole_f s n)) (signed s (mag binary64 x) ⊖ u)) (sym (whole_exact s n (next_value binary64 s m e n t.1 (inl refl)))) w.1)

-- for a reader: so the fraction of an x that is not below 0 is exact and below 1; only below 0 can it round to 1.0
pub frac_exact : (x : Float) → Number binary64 x → lt x zero_f ≡ false
    → Same (exact binary64 (split_of x).frac) (exact binary64 x ⊖ exact binary64 (floor_of x)) × Less (exact binary64 (split_of x).frac) (2 ^ low binary64, 0)
frac_exact x t h =
    let e = subst (λ (y : Float). Same (exact binary64 (x -f y)) (exact binary64 x ⊖ exact binary64 y)) (floor_size x h) (trunc_rest x t).1 in
    (e, under_one (2 ^ low binary64) (exact binary64 x) (exact binary64 (floor_of x)) (exact binary64 (x -f floor_of x)) (floor_greatest x t).1 e)
  where
    under_one : (U : ℕ) (v w y : Whole) → Greatest U v w → Same y (v ⊖ w) → Less y (U, 0)
    under_one U v w y g e = omega (arith, g.near)
