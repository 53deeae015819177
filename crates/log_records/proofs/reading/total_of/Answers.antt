-- `log_records::reading::total_of` meets its contract: each turn adds one byte more. Assumes nothing.
use mathlib.Core.Path.{◌∙◌}
use native.Mathlib.Omega.{arith}
use lib.ListN.{drop, length-take, length-drop}
use lib.Seq.{get_or-take, get_or-drop}
use Rattle.log_records.proofs.Sums.{added_none, added_next}
use Rattle.log_records.proofs.reading.total_of.Goals as goal

pub loop-byte-init : goal.loop-byte-init
loop-byte-init c = added_none _ _

pub loop-byte-preserved : goal.loop-byte-preserved
loop-byte-preserved c = let l = c.loop-byte in
    let bs = c.args.bytes.now in
    let from = c.args.from in
    added_next _ _ _ l.byte-index _ l.invariant (omega arith) (c.from-sum.ensures ∙ get_or-take _ (drop from bs) l.byte-index 0 (omega arith) ∙ get_or-drop from bs l.byte-index 0)
    (omega arith)
