-- Which numbers the doubles of specs/Bounds.antt and specs/Sizes.antt are. Assumes nothing.
use Rattle.std.proofs.Common.{◌≡◌, true, false, pos, negsuc, refl}
use lib.Ieee.{fin, of_bits}
use Rattle.sizes.specs.Bounds.{least_f, most_f, low_f, high_f}
use Rattle.sizes.specs.Sizes.{ten_f}

-- 1/256 and 256
pub least_f_is : least_f ≡ fin false 1 (negsuc 7)
unfolding of_bits
least_f_is = refl

pub most_f_is : most_f ≡ fin false 1 (pos 8)
unfolding of_bits
most_f_is = refl

-- -2 ^ 17 and 2 ^ 17
pub low_f_is : low_f ≡ fin true 1 (pos 17)
unfolding of_bits
low_f_is = refl

pub high_f_is : high_f ≡ fin false 1 (pos 17)
unfolding of_bits
high_f_is = refl

pub ten_f_is : ten_f ≡ fin false 5 (pos 1)
unfolding of_bits
ten_f_is = refl
