-- `grid_places::spot_at` meets its contract. Assumes nothing.
use Rattle.std.proofs.Common.{le-leb}
use borrow.Author.Tests.{lt-leb}
use Rattle.grid_places.proofs.spot_at.Goals as goal

pub returns-then-start-last : goal.returns-then-start-last
returns-then-start-last c = simp (le-leb _ _ c.if-start-last.true)

pub returns-else-start-last : goal.returns-else-start-last
returns-else-start-last c = simp (lt-leb _ _ c.if-start-last.false)
