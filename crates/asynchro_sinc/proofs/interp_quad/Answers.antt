-- `asynchro_sinc::interp_quad` meets its contract: 3 samples, or the refusal. Assumes nothing.
use Rattle.std.proofs.Common.{rules}
use Rattle.asynchro_sinc.specs.Blends.{sinc_quad}
use Rattle.asynchro_sinc.proofs.Said.{said_fewer, said_more, said_just}
use Rattle.asynchro_sinc.proofs.interp_quad.Goals as goal

pub returns-in_default : goal.returns-in_default
returns-in_default c = said_fewer 3 sinc_quad c.args.x _ (search rules)

pub returns-in_default-2 : goal.returns-in_default-2
returns-in_default-2 c = said_more 3 sinc_quad c.args.x _ (search rules)

pub returns : goal.returns
returns c = said_just 3 sinc_quad c.args.x _ _ (search rules) (search rules) c.quad_on.ensures
