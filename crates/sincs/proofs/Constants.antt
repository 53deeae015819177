-- Which numbers the doubles of the table are. Assumes nothing.
use Rattle.std.proofs.Common.{◌≡◌, ◌^◌, false, pos, negsuc, refl}
use lib.Ieee.{fin, binary64, round, of_bits}
use Rattle.sincs.specs.Sinc.{tiny_f, pi_f, half_turn_f}

-- 2 ^ -27
pub tiny_f_is : tiny_f ≡ fin false 1 (negsuc 26)
unfolding of_bits
tiny_f_is = refl

-- 2048
pub half_turn_f_is : half_turn_f ≡ fin false 1 (pos 11)
unfolding of_bits
half_turn_f_is = refl

-- the double nearest to pi's first 17 digits, 3.1415926535897932
pub pi_f_is : pi_f ≡ round binary64 false 31415926535897932 (10 ^ 16)
unfolding of_bits round
pi_f_is = refl
