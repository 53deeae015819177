-- `asynchro_sinc::interp_cubic` meets its contract: 4 samples, or the refusal. Assumes nothing.
use Rattle.std.proofs.Common.{rules}
use Rattle.asynchro_sinc.specs.Blends.{sinc_cubic}
use Rattle.asynchro_sinc.proofs.Said.{said_fewer, said_more, said_just}
use Rattle.asynchro_sinc.proofs.interp_cubic.Goals as goal

pub returns-in_default : goal.returns-in_default
returns-in_default c = said_fewer 4 sinc_cubic c.args.x _ (search rules)

pub returns-in_default-2 : goal.returns-in_default-2
returns-in_default-2 c = said_more 4 sinc_cubic c.args.x _ (search rules)

pub returns : goal.returns
returns c = said_just 4 sinc_cubic c.args.x _ _ (search rules) (search rules) c.cubic_on.ensures
