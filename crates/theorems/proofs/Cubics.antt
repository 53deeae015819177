-- Document 01, "Kernels": the cubic "as `interp_cubic` in src/asynchro_fast.rs, by Horner; the one in src/asynchro_sinc.rs uses powers and has other bits." Assumes nothing.
-- An x and four samples on which the two differ, over both crates' definitions: at 0.5 on 0, 0, 1, 1 Horner gives 0.5, and the powers give the next double above.
use mathlib.Core.List.{List, [], ◌∷◌}
use mathlib.Core.Path.{◌≡◌, refl, sym, ◌∙◌}
use Prim.Native.Nat.{ℕ}
use native.Mathlib.Omega.{arith}
use lib.Ieee.{Float, binary64, add, sub, mul, div, neg, of_bits}
use Rattle.exact.specs.Doubles.{zero_f, one_f, half_f}
use Rattle.asynchro_fast.specs.Kernels.{cubic}
use Rattle.asynchro_sinc.specs.Blends.{sinc_cubic}

abbrev pub step : List Float
step = zero_f ∷ zero_f ∷ one_f ∷ one_f ∷ []

pub horner_at_half : cubic half_f step ≡ half_f
unfolding add sub mul div neg of_bits
horner_at_half = refl

pub powers_at_half : sinc_cubic half_f step ≡ of_bits binary64 0x3fe0_0000_0000_0001
unfolding add sub mul div neg of_bits
powers_at_half = refl

-- the two doubles, apart by their odd parts: 1 and 2^52 + 1
apart : half_f ≡ of_bits binary64 0x3fe0_0000_0000_0001 → ⊥
unfolding of_bits
apart e = let z : ◌≡◌ {A = ℕ} 1 4503599627370497 = cc in omega arith

pub cubics_differ : cubic half_f step ≡ sinc_cubic half_f step → ⊥
cubics_differ e = apart (sym horner_at_half ∙ e ∙ powers_at_half)
