-- `channel::load_channel` meets its contract. Assumes nothing.
use Rattle.channel.proofs.load_channel.Goals as goal

pub returns-then-on : goal.returns-then-on
returns-then-on c = rw c.if-on.true c.load.ensures
