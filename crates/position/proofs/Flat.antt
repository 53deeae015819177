-- Adding a zero rounds nothing away: where the increment is zero, every step is the first one. Assumes nothing.
use mathlib.Core.Bool.{Bool, true, false}
use mathlib.Core.Path.{◌≡◌, sym, ap, ◌∙◌, subst}
use Prim.Native.Nat.{ℕ, zero, suc, ◌+◌, ◌-◌, ◌*◌, ◌/◌, ◌^◌, ◌≤◌, ◌<◌}
use native.Mathlib.Nat.{lt_of_lt_of_le, mul-one, mul_assoc, zero-mul, zero-div, div-one, mul-div_cancel}
use native.Mathlib.Omega.{arith}
use lib.Dec.{lit≤}
use lib.IntN.{pos, negsuc}
use lib.Ieee.{Float, nan, inf, fin, binary64}
use lib.Ieee.Digits.{back}
use lib.Ieee.Fits.{add-fits}
use lib.Pow.{pow-add, pow_pos}
use Rattle.exact.specs.Doubles.{◌+f◌}
use Rattle.exact.specs.Whole.{Whole, signed, ◌⊕◌, ◌⊙◌, Same, Below, Within}
use Rattle.exact.specs.Exact.{exact, Number}
use Rattle.exact.specs.Running.{run}
use Rattle.exact.proofs.Exact.{places_le}
use Rattle.exact.proofs.Sums.{add_is, keeps_of}
use Rattle.whole.proofs.Held.{digits_lt}

-- ---- a double is few digits times a power of two
pub record Spelled (x : Float) : Type 0 where
  pub sign : Bool
  pub digits : ℕ
  pub places : ℕ
  pub is : exact binary64 x ≡ signed sign (digits * 2 ^ places)
  pub few : digits < 2 ^ 53

up_units : (m k : ℕ) → m * 2 ^ k * 2 ^ 1074 / 1 ≡ m * 2 ^ (k + 1074)
up_units m k = div-one _ ∙ mul_assoc m (2 ^ k) (2 ^ 1074) ∙ ap (λ (z : ℕ). m * z) (sym (pow-add 2 k 1074))

down_units : (m k : ℕ) → suc k ≤ 1074 → m * 1 * 2 ^ 1074 / 2 ^ suc k ≡ m * 2 ^ (1074 - suc k)
down_units m k h =
    let j = 1074 - suc k in
    let e : 2 ^ 1074 ≡ 2 ^ j * 2 ^ suc k = ap (λ (z : ℕ). 2 ^ z) (sym (back 1074 (suc k) h)) ∙ pow-add 2 j (suc k) in
    let d : m * 1 * 2 ^ 1074 ≡ m * 2 ^ j * 2 ^ suc k = ap (λ (z : ℕ). z * 2 ^ 1074) (mul-one m) ∙ ap (λ (z : ℕ). m * z) e ∙ sym (mul_assoc m (2 ^ j) (2 ^ suc k)) in
    ap (λ (z : ℕ). z / 2 ^ suc k) d ∙ mul-div_cancel (m * 2 ^ j) (pow_pos (suc k))

pub spelled : (x : Float) → Number binary64 x → Spelled x
unfolding exact
spelled nan n = absurd n.0
spelled (inf s) n = absurd n.0
spelled (fin s m (pos k)) n = record { sign = s; digits = m; places = k + 1074; is = ap (signed s) (up_units m k); few = digits_lt binary64 s m (pos k) n.1 }
spelled (fin s zero (negsuc k)) n = record { sign = s; digits = 0; places = 0; is = ap (signed s) (simp (zero-mul, zero-div)); few = pow_pos 53 }
spelled (fin s (suc m) (negsuc k)) n =
    record { sign = s; digits = suc m; places = 1074 - suc k; is = ap (signed s) (down_units (suc m) k (places_le binary64 s m k n.1)); few = digits_lt binary64 s (suc m) (negsuc k) n.1 }

-- ---- x plus a zero is x
size_under : (s : Bool) (a b : ℕ) (v : Whole) → v ≡ signed s a → Below b v → a < b
size_under false a b v e h = let k = subst (Below b) e h in omega arith
size_under true a b v e h = let k = subst (Below b) e h in omega arith

nothing_added : (s : Bool) (a : ℕ) (v d : Whole) → v ≡ signed s a → Same d (0, 0) → Same (signed s a) (v ⊕ d)
nothing_added false a v d e h = rw e (omega arith)
nothing_added true a v d e h = rw e (omega arith)

still : (v d w : Whole) → Same w (v ⊕ d) → Same d (0, 0) → Same w v
still v d w h k = omega arith

pub add-zero : (x d : Float) → Number binary64 x → Number binary64 d → Same (exact binary64 d) (0, 0) → Below (2 ^ 1091) (exact binary64 x)
    → Number binary64 (x +f d) × Same (exact binary64 (x +f d)) (exact binary64 x)
add-zero x d p q z h =
    let w = spelled x p in
    let v = exact binary64 x in
    let u = exact binary64 d in
    let a = w.digits * 2 ^ w.places in
    let r = keeps_of binary64 (x +f d) (v ⊕ u) w.sign w.digits w.places (add_is binary64 x d p q) (nothing_added w.sign a v u w.is z) w.few
    (lt_of_lt_of_le (size_under w.sign a (2 ^ 1091) v w.is h) (lit≤ tt)) in
    ((r.0, add-fits binary64 x d), still v u (exact binary64 (x +f d)) r.1 z)

-- ---- so every step is the first one
flat_step : (j : ℕ) (r v t d : Whole) → Same d (0, 0) → Within (j * 0) v (t ⊕ j ⊙ d) → Same r v → Within (suc j * 0) r (t ⊕ suc j ⊙ d)
flat_step j r v t d z h k = omega (arith, ap (λ (x : ℕ). j * x) z)

flat_below : (b j : ℕ) (v t d : Whole) → Same d (0, 0) → Within (j * 0) v (t ⊕ j ⊙ d) → Below b t → Below b v
flat_below b j v t d z h k = omega (arith, ap (λ (x : ℕ). j * x) z)

pub steps_flat : (t d : Float) → Number binary64 t → Number binary64 d → Same (exact binary64 d) (0, 0) → Below (2 ^ 1091) (exact binary64 t) → (j : ℕ)
    → Number binary64 (run binary64 j t d) × Within (j * 0) (exact binary64 (run binary64 j t d)) (exact binary64 t ⊕ j ⊙ exact binary64 d)
unfolding run
steps_flat t d p q z h zero = (p, omega arith)
steps_flat t d p q z h (suc j) =
    let i = steps_flat t d p q z h j in
    let v = exact binary64 (run binary64 j t d) in
    let r = add-zero (run binary64 j t d) d i.0 q z (flat_below (2 ^ 1091) j v (exact binary64 t) (exact binary64 d) z i.1 h) in
    (r.0, flat_step j (exact binary64 (run binary64 (suc j) t d)) v (exact binary64 t) (exact binary64 d) z i.1 r.1)
