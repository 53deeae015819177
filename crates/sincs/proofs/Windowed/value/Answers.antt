-- `sincs::Windowed::value`: the window times the sinc. Assumes nothing.
use Rattle.std.proofs.Common.{◌∙◌}
use Rattle.sincs.proofs.Bounds.{tests}
use Rattle.sincs.proofs.Entries.{value_is}
use Rattle.sincs.proofs.Windowed.value.Goals as goal

pub place_of-v-requires : goal.place_of-v-requires
place_of-v-requires c = let s = c.args.self in
    let t = tests s.points s.factor s.cutoff s.holds in
    record { x_bound = rw c.total-n.ensures (c.requires, t.0.most); factor_bound = (t.0.factor_some, t.0.factor_most); cutoff_value = t.1 }

pub point_at-requires-clause-i_lt_n : goal.point_at-requires-clause-i_lt_n
point_at-requires-clause-i_lt_n c = let s = c.args.self in
    let t = tests s.points s.factor s.cutoff s.holds in
    rw c.total-n.ensures (c.requires, t.0.most)

pub returns : goal.returns
returns c = let s = c.args.self in
    let e = c.total-n.ensures in
    value_is s.points s.factor c.args.x s.cutoff s.windowfunc _ _ _ (c.place_of-v.ensures.value ∙ rw e) (c.point_at.ensures ∙ rw e) c.sinc.ensures
