-- `cost::table_length` is safe: it asks of no kind that fails its test. Assumes nothing.
use Rattle.std.proofs.Common.{sym, ◌∙◌}
use Rattle.cost.proofs.table_length.Goals as goal

pub table_length-requires : goal.table_length-requires
table_length-requires c = sym c.kind_holds.ensures ∙ c.if-not-kind_holds.false
