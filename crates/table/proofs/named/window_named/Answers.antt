-- `table::named::window_named` meets its contract. Assumes nothing.
use Rattle.table.proofs.Names.{name_none, names_none}
use Rattle.table.proofs.named.window_named.Goals as goal

pub returns-then-is_name : goal.returns-then-is_name
returns-then-is_name c = c.is_name.ensures.0 c.if-is_name.true

pub returns-then-is_name-2 : goal.returns-then-is_name-2
returns-then-is_name-2 c = c.is_name-2.ensures.0 c.if-is_name-2.true

pub returns-then-is_name-3 : goal.returns-then-is_name-3
returns-then-is_name-3 c = c.is_name-3.ensures.0 c.if-is_name-3.true

pub returns-then-is_name-4 : goal.returns-then-is_name-4
returns-then-is_name-4 c = c.is_name-4.ensures.0 c.if-is_name-4.true

pub returns-then-is_name-5 : goal.returns-then-is_name-5
returns-then-is_name-5 c = c.is_name-5.ensures.0 c.if-is_name-5.true

pub returns-then-is_name-6 : goal.returns-then-is_name-6
returns-then-is_name-6 c = c.is_name-6.ensures.0 c.if-is_name-6.true

pub returns : goal.returns
returns c = names_none _ (name_none _ _ c.is_name.ensures c.if-is_name.false) (name_none _ _ c.is_name-2.ensures c.if-is_name-2.false) (name_none _ _ c.is_name-3.ensures c.if-is_name-3.false) (name_none _ _ c.is_name-4.ensures c.if-is_name-4.false) (name_none _ _ c.is_name-5.ensures c.if-is_name-5.false) (name_none _ _ c.is_name-6.ensures c.if-is_name-6.false)
