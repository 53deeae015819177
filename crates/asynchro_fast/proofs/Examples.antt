-- Computed examples of the kernels on doubles. Assumes nothing.
use mathlib.Core.List.{[], ◌∷◌}
use mathlib.Core.Path.{◌≡◌, refl}
use lib.Ieee.{Float, binary64, add, mul, div, neg, of_int, of_bits}
use Rattle.exact.specs.Doubles.{zero_f, one_f}
use Rattle.asynchro_fast.specs.declared.PolynomialDegree.TheVariants.{Septic}
use Rattle.asynchro_fast.specs.Kernels.{interp_of}
use Rattle.rows.specs.Rows.{terms, left_to_right, row_sum, horner, kernel}

-- the double nearest to 7/17
abbrev seven17 : Float
seven17 = of_bits binary64 0x3fda_5a5a_5a5a_5a5a

-- document 01, "Kernels": at frac 0 the float Septic need not return the sample's bits. Here its answer is the double below the sample
septic_at_node : interp_of Septic zero_f (zero_f ∷ zero_f ∷ zero_f ∷ seven17 ∷ zero_f ∷ zero_f ∷ zero_f ∷ zero_f ∷ []) ≡ of_bits binary64 0x3fda_5a5a_5a5a_5a59
unfolding interp_of kernel horner row_sum terms left_to_right add mul div of_int of_bits
septic_at_node = refl

-- a row's sum begins with its first non-zero term: a sum begun at 0.0 would give +0.0 here
septic_minus_zero : interp_of Septic zero_f (zero_f ∷ zero_f ∷ zero_f ∷ neg zero_f ∷ neg one_f ∷ zero_f ∷ zero_f ∷ zero_f ∷ []) ≡ neg zero_f
unfolding interp_of kernel horner row_sum terms left_to_right add mul div neg of_int of_bits
septic_minus_zero = refl
