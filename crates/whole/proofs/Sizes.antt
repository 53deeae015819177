-- An x that is not below 0, and what it says of one that it is below 2 ^ k. Assumes nothing.
use mathlib.Core.Bool.{true, false, true≢false, false≢true}
use mathlib.Core.Path.{◌≡◌}
use Prim.Native.Nat.{ℕ, zero, suc, ◌+◌, ◌*◌, ◌%◌, ◌^◌, ◌≤◌, ◌<◌}
use native.Mathlib.Nat.{add-zero, zero-mul, mul-one, zero-mod, mul-pos, mul-le-mul_right}
use native.Mathlib.Omega.{arith}
use borrow.Author.Tests.{ltb-true, ltb-false}
use lib.Dec.{T, lt→ltb}
use lib.IntN.{ℤ, pos}
use lib.Ieee.{Float, nan, inf, fin, up, down, lt, of_bits}
use lib.Ieee.Fits.{up_pos, down_pos}
use lib.Pow.{pow_mono}
use Rattle.exact.specs.Doubles.{zero_f}

-- ---- what is not below 0: no number, an infinity, a size, a zero with a sign
pub data NotBelow : Float → Type 0 where
  no_number : NotBelow nan
  endless : NotBelow (inf false)
  a_size : (m : ℕ) (e : ℤ) → NotBelow (fin false m e)
  minus_zero : (e : ℤ) → NotBelow (fin true zero e)

positive : (m : ℕ) (e : ℤ) → suc m * up e ≤ 0 → ⊥
positive m e h = let o : 0 < suc m = omega arith in omega (arith, mul-pos o (up_pos e))

pub not_below : (x : Float) → lt x zero_f ≡ false → NotBelow x
unfolding lt of_bits
not_below nan h = no_number
not_below (inf true) h = absurd (true≢false h)
not_below (inf false) h = endless
not_below (fin false m e) h = a_size m e
not_below (fin true zero e) h = minus_zero e
not_below (fin true (suc m) e) h = absurd (positive m e (simp (zero-mul, mul-one, add-zero) at (ltb-false 0 (suc m * up e * 1 + 0 * down e) h)))

-- ---- below 2 ^ k: what `truncating_f64_to_u64` asks of its caller
pub part_asks : (k : ℕ) (x : Float) → k ≤ 63 → lt x zero_f ≡ false → lt x (fin false 1 (pos k)) ≡ true → T (lt (fin true 1 (pos 0)) x) × T (lt x (fin false 1 (pos 64)))
unfolding lt
part_asks k x l p q = go (not_below x p) q
  where
    go : {x : Float} → NotBelow x → lt x (fin false 1 (pos k)) ≡ true → T (lt (fin true 1 (pos 0)) x) × T (lt x (fin false 1 (pos 64)))
    go no_number h = absurd (false≢true h)
    go endless h = absurd (false≢true h)
    go (a_size m e) h =
        let b : m * up e * 1 < 1 * 2 ^ k * down e = ltb-true (m * up e * 1) (1 * 2 ^ k * down e) h in
        let c = mul-le-mul_right (down e) (pow_mono {i = k} {j = 63} l) in
        (lt→ltb 0 (1 * down e + m * up e * 1) (omega (arith, down_pos e)), lt→ltb (m * up e * 1) (2 ^ 64 * down e) (omega arith))
    go (minus_zero e) h =
        (lt→ltb (0 * up e * 1) (1 * down e) (omega (arith, down_pos e)), lt→ltb 0 (0 * up e * 1 + 2 ^ 64 * down e) (omega (arith, down_pos e)))

-- of a zero nothing is left over
pub no_left : (m : ℕ) (e : ℤ) → m * up e ≡ 0 → m * up e % down e ≡ 0
no_left m e h = rw h (zero-mod (down e))
