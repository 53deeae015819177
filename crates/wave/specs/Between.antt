-- The words for what is said of the cosine by exact values. Definitions only.
use Rattle.std.specs.Prelude.{◌^◌, ◌⊎◌, ℤ}
use Rattle.exact.specs.Whole.{Whole, ◌⊙◌, AtMost}
use Rattle.exact.specs.Integers.{pair_of}
use Rattle.wave.specs.Carried.{carried}

-- c(n) * 2^-30, in units of 2 ^ -1074
abbrev pub step_units : ℤ → Whole
step_units n = 2 ^ 1044 ⊙ pair_of (carried n)

-- v lies between u and w, whichever of the two is the smaller
abbrev pub Between : Whole → Whole → Whole → Type 0
Between u w v = (AtMost u v × AtMost v w) ⊎ (AtMost w v × AtMost v u)
