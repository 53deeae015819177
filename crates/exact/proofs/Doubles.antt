-- Which numbers the doubles of specs/Doubles.antt are. Assumes nothing.
use mathlib.Core.Bool.{false}
use mathlib.Core.Path.{◌≡◌, refl}
use lib.IntN.{pos, negsuc}
use lib.Ieee.{inf, fin, binary64, round, div, neg, of_bits}
use Rattle.exact.specs.Doubles.{◌/f◌, zero_f, one_f, half_f, two_f, three_f, four_f, six_f, third, sixth, inf_f}

pub zero_f_is : zero_f ≡ fin false 0 (pos 0)
unfolding of_bits
zero_f_is = refl

pub one_f_is : one_f ≡ fin false 1 (pos 0)
unfolding of_bits
one_f_is = refl

pub half_f_is : half_f ≡ fin false 1 (negsuc 0)
unfolding of_bits
half_f_is = refl

pub two_f_is : two_f ≡ fin false 1 (pos 1)
unfolding of_bits
two_f_is = refl

pub three_f_is : three_f ≡ fin false 3 (pos 0)
unfolding of_bits
three_f_is = refl

pub four_f_is : four_f ≡ fin false 1 (pos 2)
unfolding of_bits
four_f_is = refl

pub six_f_is : six_f ≡ fin false 3 (pos 1)
unfolding of_bits
six_f_is = refl

-- the doubles nearest to 1/3 and to 1/6
pub third_is : third ≡ round binary64 false 1 3
unfolding div of_bits
third_is = refl

pub sixth_is : sixth ≡ round binary64 false 1 6
unfolding div of_bits
sixth_is = refl

-- src/asynchro_sinc.rs writes its first cubic weight with -1/3, which is the same double
pub minus_third_is : neg one_f /f three_f ≡ neg third
unfolding div neg of_bits
minus_third_is = refl

pub inf_f_is : inf_f ≡ inf false
unfolding of_bits div
inf_f_is = refl
