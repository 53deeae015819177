-- `table::build::entries_of` meets its contract: the product is formed where it is small. Assumes nothing.
use native.Mathlib.Omega.{arith}
use borrow.Author.Rules.{rules}
use Rattle.sincs.proofs.Bounds.{product_most}
use Rattle.table.proofs.Tables.{entries_none, entries_large, entries_all}
use Rattle.table.proofs.build.entries_of.Goals as goal

pub returns-then-factor-eq0 : goal.returns-then-factor-eq0
returns-then-factor-eq0 c = (search rules, entries_none c.args.points c.args.factor c.if-factor-eq0.true)

pub returns-then-points-factor : goal.returns-then-points-factor
returns-then-points-factor c = (search rules, entries_large c.args.points c.args.factor (omega arith) c.if-points-factor.true)

pub overflow_mul-result : goal.overflow_mul-result
overflow_mul-result c = record { fits = omega (arith, product_most c.args.points c.args.factor (omega arith) c.if-points-factor.false) }

pub returns : goal.returns
returns c = (product_most c.args.points c.args.factor (omega arith) c.if-points-factor.false, entries_all c.args.points c.args.factor (omega arith) c.if-points-factor.false)
