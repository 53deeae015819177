-- `channel::load` meets its contract: the copy, then the zeros. Assumes nothing.
use Rattle.channel.proofs.Moves.{loaded_is}
use Rattle.channel.proofs.load.Goals as goal

pub returns : goal.returns
returns c = loaded_is _ _ _ _ _ _ _ c.copy_in.ensures c.zero_from.ensures
