-- The stored steps: what the test tells of one, and that a fresh one passes it. Assumes nothing.
use mathlib.Core.Bool.{Bool, true, false, not, ◌&&◌, ◌||◌, cond, false≢true}
use mathlib.Core.Path.{◌≡◌, refl, sym, ap, ◌∙◌, subst}
use mathlib.Mathlib.Data.Bool.Basic.{or-eq-false-eq-eq-false-and-eq-false}
use Prim.Native.Nat.{ℕ, zero, suc, ◌+◌, ◌*◌, ◌^◌}
use borrow.Author.Tests.{eqb-true, eq-eqb}
use lib.Dec.{T, eqb, ltb}
use lib.Ieee.{Float, nan, inf, fin, Format, binary64, prec, emax, low, unlike, up, down, fits, is_nan, ne, lt, eq, le, div, round, units, odd, to_bits, of_bits}
use lib.Ieee.Bits.{is_true, of_bits-to_bits}
use lib.Ieee.Compare.{differs_from_itself}
use lib.Ieee.Fits.{div-fits}
use Rattle.exact.specs.Doubles.{one_f}
use Rattle.exact.proofs.Nans.{no_nan}
use Rattle.error.proofs.Ladder.{both, join}
use Rattle.sizes.specs.Bounds.{is_ratio}
use Rattle.steps.specs.Steps.{step_of, is_step}

-- ---- a step that passes is the division
same_bits : (x y : Float) → T (fits binary64 x) → T (fits binary64 y) → to_bits binary64 x ≡ to_bits binary64 y → x ≡ y
same_bits x y p q e = sym (of_bits-to_bits binary64 x p) ∙ ap (of_bits binary64) e ∙ of_bits-to_bits binary64 y q

pub step_is : (x r : Float) → is_step x r ≡ true → x ≡ step_of r
step_is x r h =
    let a = both (fits binary64 x && not (is_nan x)) (eqb (to_bits binary64 x) (to_bits binary64 (step_of r))) h in
    let b = both (fits binary64 x) (not (is_nan x)) a.0 in
    same_bits x (step_of r) (subst T (sym b.0) tt) (div-fits binary64 one_f r) (eqb-true _ _ a.1)

-- ---- the step of a ratio in use is no NaN, so it passes
odd_number : (d : ℕ) (s : Bool) (q k l : ℕ) → is_nan (odd d s q k l) ≡ false
unfolding odd is_nan
odd_number d s zero k l = refl
odd_number d s (suc q) k l = refl

cond_number : (b : Bool) (x y : Float) → is_nan x ≡ false → is_nan y ≡ false → is_nan (cond b x y) ≡ false
cond_number true x y h k = h
cond_number false x y h k = k

inf_number : (s : Bool) → is_nan (inf s) ≡ false
unfolding is_nan
inf_number s = refl

units_number : (f : Format) (s : Bool) (q k : ℕ) → is_nan (units f s q k) ≡ false
unfolding units
units_number f s q k = cond_number (ltb (q * 2 ^ k) (2 ^ (low f + suc (emax f)))) _ _ (odd_number (suc (prec f)) s q k (low f)) (inf_number s)

round_number : (f : Format) (s : Bool) (num den : ℕ) → is_nan (round f s num den) ≡ false
unfolding round
round_number f s num den = units_number f s _ _

fresh_number : (r : Float) → is_ratio r ≡ true → is_nan (step_of r) ≡ false
unfolding div of_bits lt eq le is_nan
fresh_number nan h = absurd (false≢true h)
fresh_number (inf s) h = refl
fresh_number (fin s m e) h =
    let t = unlike false s in
    cond_number (eqb m 0) (inf t) (round binary64 t (1 * 1 * down e) (m * up e * 1)) (inf_number t) (round_number binary64 t (1 * 1 * down e) (m * up e * 1))

pub fresh_step : (r : Float) → is_ratio r ≡ true → is_step (step_of r) r ≡ true
fresh_step r h =
    let bits = to_bits binary64 (step_of r) in
    join (join (is_true (fits binary64 (step_of r)) (div-fits binary64 one_f r)) (ap not (fresh_number r h))) (eq-eqb bits bits refl)

-- ---- a NaN fails
nan_fails : (x r : Float) → x ≡ nan → is_step x r ≡ true → ⊥
unfolding is_nan
nan_fails x r e h =
    let a = both (fits binary64 x && not (is_nan x)) (eqb (to_bits binary64 x) (to_bits binary64 (step_of r))) h in
    let b = both (fits binary64 x) (not (is_nan x)) a.0 in
    false≢true (sym (ap (λ (z : Float). not (is_nan z)) e) ∙ b.1)

-- ---- the test as the code makes it: x is the stored step, y the fresh one
module _ (x r y : Float) (e : y ≡ step_of r) where
  is_nan_lem : (ne x x || ne y y) ≡ true → x ≡ y → x ≡ nan
  is_nan_lem h k = go (ne x x) refl h
    where
      go : (b : Bool) → ne x x ≡ b → (b || ne y y) ≡ true → x ≡ nan
      go true a h = differs_from_itself x (subst T (sym a) tt)
      go false a h = k ∙ differs_from_itself y (subst T (sym h) tt)

  pub step_none : (ne x x || ne y y) ≡ true → false ≡ is_step x r
  step_none h = go (is_step x r) refl
    where
      go : (b : Bool) → is_step x r ≡ b → false ≡ b
      go false a = refl
      go true a = absurd (nan_fails x r (is_nan_lem h (step_is x r a ∙ sym e)) a)

  pub step_some : T (fits binary64 x) → (ne x x || ne y y) ≡ false → eqb (to_bits binary64 x) (to_bits binary64 y) ≡ is_step x r
  step_some q h =
      let a = is_true (fits binary64 x) q in
      let b = is_true (not (is_nan x)) (no_nan x ((or-eq-false-eq-eq-false-and-eq-false (ne x x) (ne y y)).0 h).0) in
      rw (a, b, e)
