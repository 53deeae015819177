-- Document 02, R-2: "Store 1/current and 1/target in the state record." The step of a ratio, and the test of one that is stored. Definitions only.
use Rattle.std.specs.Prelude.{Bool, not, ◌&&◌, eqb, Float}
use Rattle.std.specs.Float.{binary64}
use Rattle.std.specs.Float.Ieee.{fits, is_nan, to_bits}
use Rattle.exact.specs.Doubles.{◌/f◌, one_f}

-- the step of an original, current or target ratio: the one place that divides 1 by one
abbrev pub step_of : Float → Float
step_of r = one_f /f r

-- "10 is also given if either stored step differs from its division", in its bits; a NaN always differs. x is a double, as every f64 of the code is, no NaN, and has the bits of r's step
abbrev pub is_step : Float → Float → Bool
is_step x r = fits binary64 x && not (is_nan x) && eqb (to_bits binary64 x) (to_bits binary64 (step_of r))
