-- `path::look` meets its contract. Assumes nothing.
use Rattle.path.proofs.Reach.{inner_all}
use Rattle.path.proofs.look.Goals as goal

pub returns-then-seen : goal.returns-then-seen
returns-then-seen c = let l = c.look_within-seen in record { reach = inner_all c.args.kind c.args.needed _ _ _ _ c.requires.0 c.requires.1 _ _ c.inner_span.ensures l.ensures.reach c.if-seen.true; index = l.ensures.index }

pub returns : goal.returns
returns c = record { reach = c.look_sites.ensures.reach; index = c.look_sites.ensures.index }
