-- `frames::write_channel` meets its contract. Assumes nothing.
use Rattle.frames.proofs.Run.{written}
use Rattle.frames.proofs.write_channel.Goals as goal

pub returns-then-on : goal.returns-then-on
returns-then-on c = written c.args.on c.args.share.now c.args.k _ _ c.if-on.true c.value.ensures
