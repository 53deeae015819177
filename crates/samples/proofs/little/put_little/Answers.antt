-- `samples::little::put_little` meets its contract: each turn puts one byte more. Assumes nothing.
use mathlib.Core.Path.{refl}
use native.Mathlib.Omega.{arith}
use Rattle.samples.proofs.Bytes.{put_none, put_next, put_done}
use Rattle.samples.proofs.little.put_little.Goals as goal

pub loop-k-init : goal.loop-k-init
loop-k-init c = (omega arith, put_none _ _ _ _)

pub loop-k-preserved : goal.loop-k-preserved
loop-k-preserved c = (omega arith, put_next _ _ _ _ _ c.loop-k.k _ c.loop-k.invariant.1 (omega arith) (omega arith) refl)

pub shape_of-bytes : goal.shape_of-bytes
shape_of-bytes c = c.loop-k.invariant.1.long

pub returns : goal.returns
returns c = put_done _ _ _ _ _ _ c.loop-k.invariant.1 (omega arith)
