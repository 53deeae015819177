-- `log_calls::increment_of` meets its contract. Assumes nothing.
use borrow.Author.Tests.{ne_eqb}
use Rattle.log_calls.proofs.increment_of.Goals as goal

pub returns-then-output-eq0 : goal.returns-then-output-eq0
returns-then-output-eq0 c = rw c.if-output-eq0.true

pub returns : goal.returns
returns c = rw (ne_eqb c.args.output 0 c.if-output-eq0.false)
