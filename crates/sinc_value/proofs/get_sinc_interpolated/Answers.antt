-- `sinc_value::get_sinc_interpolated` is the sum. The loop's invariant: the products below place k are summed. Assumes nothing.
use native.Mathlib.Omega.{arith}
use borrow.Author.Rules.{rules}
use Rattle.sinc_value.proofs.Sums.{sum_first, sum_next, sum_done}
use Rattle.sinc_value.proofs.get_sinc_interpolated.Goals as goal

pub loop-k-init : goal.loop-k-init
loop-k-init c = (search rules, sum_first _ _)

pub loop-k-smaller : goal.loop-k-smaller
loop-k-smaller c = omega arith

pub loop-k-preserved : goal.loop-k-preserved
loop-k-preserved c = (omega arith, sum_next _ _ _ _ c.loop-k.invariant.1)

pub returns : goal.returns
returns c = sum_done _ _ _ _ _ (omega arith) c.loop-k.invariant.0 c.loop-k.invariant.1
