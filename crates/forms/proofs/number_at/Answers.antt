-- `forms::number_at` meets its contract. Assumes nothing.
use native.Mathlib.Omega.{arith}
use Rattle.forms.proofs.Marks.{past}
use Rattle.forms.proofs.number_at.Goals as goal

pub returns-else-k-numbers : goal.returns-else-k-numbers
returns-else-k-numbers c = past c.args.numbers.now c.args.k (omega arith)
