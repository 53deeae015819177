-- What a test that passed says. Assumes nothing.
use mathlib.Core.Bool.{Bool, true, false, ◌&&◌, ◌||◌}
use mathlib.Core.Path.{◌≡◌, refl, sym, subst}
use Prim.Native.Nat.{ℕ, ◌*◌, ◌^◌, ◌≤◌, ◌<◌}
use native.Mathlib.Nat.{le_of_lt, le_of_eq}
use native.Mathlib.Omega.{arith}
use lib.Dec.{T, eqb, ltb, ltb→lt, eqb→eq}
use lib.IntN.{ℤ}
use lib.Ieee.{Float, nan, inf, fin, binary64, up, down, fits, lt, eq, le, of_bits}
use lib.Ieee.Fits.{down_pos, and_i, and_l, and_r}
use lib.Ieee.Scale.{finite}
use Rattle.exact.specs.Whole.{Whole, Less, Below}
use Rattle.exact.specs.Exact.{exact, Number}
use Rattle.exact.proofs.Order.{lt_exact}
use Rattle.sizes.specs.Bounds.{least_f, most_f, low_f, high_f, is_ratio, is_index}
use Rattle.position.proofs.Amounts.{low_exact, high_exact}

pub holds : {b : Bool} → b ≡ true → T b
holds e = subst T (sym e) tt

-- ---- a ratio in use is a fraction from 1/256 to 256, whether it is a double or not
pub record Ratio (r : Float) : Type 0 where
  pub digits : ℕ
  pub exponent : ℤ
  pub is : r ≡ fin false digits exponent
  pub least : down exponent ≤ 256 * (digits * up exponent)
  pub most : digits * up exponent ≤ 256 * down exponent

at_most : (a b : ℕ) (c : Bool) → T (ltb a b || (eqb a b && c)) → a ≤ b
at_most a b c h = go (ltb a b) (ltb→lt a b) h
  where
    go : (o : Bool) → (T o → a < b) → T (o || (eqb a b && c)) → a ≤ b
    go true u t = le_of_lt (u tt)
    go false u t = le_of_eq (eqb→eq a b (and_l (eqb a b) c t))

pub ratio_of : (r : Float) → T (is_ratio r) → Ratio r
unfolding le lt eq of_bits
ratio_of r h = go r (and_l (le least_f r) (le r most_f) h) (and_r (le least_f r) (le r most_f) h)
  where
    go : (r : Float) → T (le least_f r) → T (le r most_f) → Ratio r
    go nan a b = absurd a
    go (inf true) a b = absurd a
    go (inf false) a b = absurd b
    go (fin true m e) a b = let z = eqb→eq (1 * 1 * down e) 0 (and_r (eqb (1 * 1 * down e) (m * up e * 256)) (eqb (1 * 1 * down e) 0) a) in absurd (omega (arith, down_pos e))
    go (fin false m e) a b =
        record {
          digits = m;
          exponent = e;
          is = refl;
          least = omega (arith, at_most (1 * 1 * down e) (m * up e * 256) true a);
          most = omega (arith, at_most (m * up e * 1) (1 * 256 * down e) true b);
        }

-- ---- a double: what an f64 of the code holds
abbrev pub Double : Float → Type 0
Double x = T (fits binary64 x)

-- an index in use is a number below 2 ^ 17 in size
between_finite : (x : Float) → T (lt low_f x) → T (lt x high_f) → T (finite x)
unfolding lt of_bits
between_finite nan a b = absurd a
between_finite (inf true) a b = absurd a
between_finite (inf false) a b = absurd b
between_finite (fin s m e) a b = tt

pub index_of : (i : Float) → Double i → T (is_index i) → Number binary64 i × Below (2 ^ 1091) (exact binary64 i)
index_of i d h =
    let a = and_l (lt low_f i) (lt i high_f) h in
    let b = and_r (lt low_f i) (lt i high_f) h in
    let n : Number binary64 i = (between_finite i a b, d) in (
      n,
      inside (2 ^ 1091) (exact binary64 i)
          (subst (λ (v : Whole). Less v (exact binary64 i)) low_exact.1 ((lt_exact binary64 low_f i low_exact.0 n).0 a))
          (subst (Less (exact binary64 i)) high_exact.1 ((lt_exact binary64 i high_f n high_exact.0).0 b)),
    )
  where
    inside : (b : ℕ) (v : Whole) → Less (0, b) v → Less v (b, 0) → Below b v
    inside b v h k = omega arith

pub index_is : (i : Float) → Number binary64 i → Below (2 ^ 1091) (exact binary64 i) → T (is_index i)
index_is i n h =
    let w = outside (2 ^ 1091) (exact binary64 i) h in
    and_i (lt low_f i) (lt i high_f)
    ((lt_exact binary64 low_f i low_exact.0 n).1 (subst (λ (v : Whole). Less v (exact binary64 i)) (sym low_exact.1) w.0))
    ((lt_exact binary64 i high_f n high_exact.0).1 (subst (Less (exact binary64 i)) (sym high_exact.1) w.1))
  where
    outside : (b : ℕ) (v : Whole) → Below b v → Less (0, b) v × Less v (b, 0)
    outside b v h = omega arith
