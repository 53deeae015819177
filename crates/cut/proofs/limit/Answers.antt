-- `cut::limit` meets its contract. Assumes nothing.
use Rattle.cut.proofs.Limits.{limit_behind, limit_ahead}
use Rattle.cut.proofs.limit.Goals as goal

pub returns-then-edge-used : goal.returns-then-edge-used
returns-then-edge-used c = limit_behind c.args.used c.args.edge _ _ c.if-edge-used.true c.min.ensures c.nearest_u64_to_f64.ensures

pub returns : goal.returns
returns c = limit_ahead c.args.used c.args.edge _ _ c.if-edge-used.false c.min-2.ensures c.nearest_u64_to_f64-2.ensures
