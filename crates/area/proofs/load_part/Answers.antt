-- `area::load_part` meets its contract: what `load_channel` makes of the part that is lent, from the input that is lent. Assumes nothing.
use Prim.Native.Nat.{◌*◌}
use native.Mathlib.Omega.{arith}
use Rattle.area.specs.Moves.{loaded_in}
use Rattle.area.proofs.Moves.{loaded_in_is}
use Rattle.area.proofs.Parted.{lent_from, given_back}
use Rattle.area.proofs.load_part.Goals as goal

pub returns : goal.returns
returns c = let a = c.args in
    given_back (loaded_in a.mask a.l2 a.input.now a.share a.at a.read a.needed) a.stride a.c a.work.now _
    (loaded_in_is a.mask a.l2 a.input.now a.share a.at a.read a.needed a.c _ _ _ _ c.is_on-on.ensures
    (lent_from (a.c * a.share) a.share a.at a.input.now (omega arith) (omega arith))
    c.load_channel.ensures)
