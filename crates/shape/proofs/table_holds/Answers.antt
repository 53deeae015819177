-- `shape::table_holds` meets its contract. Assumes nothing.
use mathlib.Core.Path.{ap}
use lib.Dec.{eqb}
use Rattle.state.proofs.Checked.{kind_of}
use Rattle.shape.proofs.table_holds.Goals as goal

pub table_length-requires : goal.table_length-requires
table_length-requires c = kind_of _ c.args.tested.passes

pub returns : goal.returns
returns c = ap (eqb c.args.table) c.table_length.ensures
