-- A double's bits where a NaN may stand: `x != x` tells a NaN, and one comparison tells a NaN's pattern. Assumes nothing.
use mathlib.Core.Bool.{Bool, true, false, not}
use mathlib.Core.Path.{◌≡◌, refl, sym, ap, ◌∙◌, subst}
use Prim.Native.Nat.{ℕ, ◌*◌, ◌%◌, ◌<◌, ◌≤◌}
use borrow.Author.Tests.{lt-ltb, le-ltb}
use lib.Dec.{T}
use lib.Ieee.{Float, nan, inf, fin, binary64, is_nan, ne, div, to_bits, of_bits, nan_bits, top, hid, ones}
use lib.Ieee.Bits.{nan_bits_is, nan_bits_above}
use lib.Ieee.Compare.{differs_from_itself}
use Rattle.exact.specs.Doubles.{zero_f}

pub nan_told : (x : Float) → ne x x ≡ true → 0x7ff8_0000_0000_0000 ≡ to_bits binary64 x
unfolding to_bits
nan_told x h = ap (to_bits binary64) (sym (differs_from_itself x (subst T (sym h) tt)))

-- the two truth values differ
pub apart : true ≡ false → ⊥
apart e = subst T e tt

only_nan : (x : Float) → is_nan x ≡ true → x ≡ nan
unfolding is_nan
only_nan nan h = refl
only_nan (inf s) h = absurd (apart (sym h))
only_nan (fin s m e) h = absurd (apart (sym h))

zero_by_zero : div binary64 zero_f zero_f ≡ nan
unfolding div of_bits
zero_by_zero = refl

pub nan_pattern : (n : ℕ) → ones binary64 * hid binary64 < n % top binary64 → div binary64 zero_f zero_f ≡ of_bits binary64 n
nan_pattern n h =
    zero_by_zero ∙ sym (only_nan (of_bits binary64 n) (sym (nan_bits_is binary64 n) ∙ nan_bits_above binary64 n ∙ lt-ltb (ones binary64 * hid binary64) (n % top binary64) h))

pub no_nan_pattern : (n : ℕ) → n % top binary64 ≤ ones binary64 * hid binary64 → T (not (nan_bits binary64 n))
no_nan_pattern n h = subst (λ (b : Bool). T (not b)) (sym (nan_bits_above binary64 n ∙ le-ltb (ones binary64 * hid binary64) (n % top binary64) h)) tt
