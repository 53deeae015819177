-- `area::move_part` meets its contract: what `move_front` makes of the part that is lent. Assumes nothing.
use Rattle.area.specs.Moves.{moved_in}
use Rattle.area.proofs.Parted.{given_back}
use Rattle.area.proofs.move_part.Goals as goal

pub returns : goal.returns
returns c = let a = c.args in
    given_back (moved_in a.fill a.l2) a.stride a.c a.work.now _ c.move_front.ensures
