-- `blocks::ahead::left_in` meets its contract. Assumes nothing.
use mathlib.Core.Path.{refl}
use native.Mathlib.Nat.{mod-lt}
use native.Mathlib.Omega.{arith}
use borrow.Author.Rules.{rules}
use Rattle.blocks.proofs.ahead.left_in.Goals as goal

pub overflow_mul-result : goal.overflow_mul-result
overflow_mul-result c = search (rules, mod-lt c.args.p.samples c.requires.0)

pub overflow_add-result : goal.overflow_add-result
overflow_add-result c = search (rules, mod-lt c.args.p.samples c.requires.0)

pub returns : goal.returns
returns c = (refl, omega (arith, mod-lt c.args.p.samples c.requires.0))
