-- The doubles whose floor is a whole number that is told exactly: those below 2 ^ 52 in size. Definitions only.
use Rattle.std.specs.Prelude.{Bool, ◌&&◌, Float}
use Rattle.std.specs.Float.{binary64}
use Rattle.std.specs.Float.Ieee.{neg, lt, of_bits}

-- 2 ^ 52
abbrev pub limit_f : Float
limit_f = of_bits binary64 0x4330_0000_0000_0000

-- "|t| below 2^52": false for a NaN
abbrev pub small : Float → Bool
small t = lt (neg limit_f) t && lt t limit_f
