-- `samples::counts::samples_in` meets its contract: the product is at most 16 * 65536. Assumes nothing.
use mathlib.Core.Path.{refl}
use native.Mathlib.Omega.{arith}
use Rattle.samples.proofs.Products.{small_product}
use Rattle.samples.proofs.counts.samples_in.Goals as goal

pub overflow_mul-result : goal.overflow_mul-result
overflow_mul-result c = omega (arith, small_product _ _ c.requires.0 c.requires.1)

pub returns : goal.returns
returns c = (refl, small_product _ _ c.requires.0 c.requires.1)
