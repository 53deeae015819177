-- `lines::adding::triangle` meets its contract. Assumes nothing.
use Rattle.lines.proofs.Grows.{triangle_even, triangle_odd}
use Rattle.lines.proofs.adding.triangle.Goals as goal

pub returns-then-n-eq0 : goal.returns-then-n-eq0
returns-then-n-eq0 c = triangle_even c.args.n c.if-n-eq0.true

pub returns : goal.returns
returns c = triangle_odd c.args.n c.if-n-eq0.false
