-- `samples::frames::place_of` meets its contract. Assumes nothing.
use mathlib.Core.Path.{refl}
use native.Mathlib.Omega.{arith}
use Rattle.samples.proofs.Places.{place_in}
use Rattle.samples.proofs.frames.place_of.Goals as goal

pub returns : goal.returns
returns c = (refl, place_in _ _ _ c.requires.0 c.requires.1)

pub overflow_mul-result : goal.overflow_mul-result
overflow_mul-result c = omega (arith, place_in _ _ _ c.requires.0 c.requires.1)

pub overflow_add-result : goal.overflow_add-result
overflow_add-result c = omega (arith, place_in _ _ _ c.requires.0 c.requires.1)
