-- `shape::measured` meets its contract: a record that passes the test is of a kind that does. Assumes nothing.
use Rattle.state.proofs.Checked.{kind_of}
use Rattle.shape.proofs.measured.Goals as goal

pub invariant_of-result : goal.invariant_of-result
invariant_of-result c = let t = c.args.tested in
    record { kind_held = kind_of t.state t.passes; most_is = t.most_is }
