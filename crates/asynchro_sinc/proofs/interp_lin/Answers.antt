-- `asynchro_sinc::interp_lin` meets its contract: 2 samples, or the refusal. Assumes nothing.
use Rattle.std.proofs.Common.{rules}
use Rattle.exact.specs.Samples.{linear}
use Rattle.asynchro_sinc.proofs.Said.{said_fewer, said_more, said_just}
use Rattle.asynchro_sinc.proofs.interp_lin.Goals as goal

pub returns-in_default : goal.returns-in_default
returns-in_default c = said_fewer 2 linear c.args.x _ (search rules)

pub returns-in_default-2 : goal.returns-in_default-2
returns-in_default-2 c = said_more 2 linear c.args.x _ (search rules)

pub returns : goal.returns
returns c = said_just 2 linear c.args.x _ _ (search rules) (search rules) c.lin_on.ensures
