-- `decimals::numbers::power_of_ten` meets its contract: each turn is times ten. Assumes nothing.
use Rattle.std.proofs.Common.{◌+◌, ◌^◌, refl, ap, ◌∙◌, arith}
use Rattle.decimals.proofs.Words.{ten_next, ten_small}
use Rattle.decimals.proofs.numbers.power_of_ten.Goals as goal

pub loop-i-init : goal.loop-i-init
loop-i-init c = (omega arith, refl)

pub overflow_mul-power : goal.overflow_mul-power
overflow_mul-power c = omega (arith, ten_next _ _ c.loop-i.invariant.1, ten_small (c.loop-i._i + 1) (omega arith))

pub loop-i-preserved : goal.loop-i-preserved
loop-i-preserved c = (omega arith, ten_next _ _ c.loop-i.invariant.1)

pub returns : goal.returns
returns c = c.loop-i.invariant.1 ∙ ap (λ j. 10 ^ j) (omega arith)
