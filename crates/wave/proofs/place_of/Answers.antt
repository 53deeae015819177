-- `wave::place_of`: 2 ^ 52 is a number of whole turns, and with it added no number is below 0. Assumes nothing.
use Rattle.std.proofs.Common.{ap, ◌∙◌}
use Rattle.wave.specs.Carried.{place_of}
use Rattle.wave.proofs.Places.{turn_fits, turn_cast, turn_place}
use Rattle.wave.proofs.place_of.Goals as goal

pub overflow_add-m : goal.overflow_add-m
overflow_add-m c = turn_fits c.truncating_f64_to_i64-n.result (rw c.truncating_f64_to_i64-n.ensures c.requires.size)

pub overflow_cast-m : goal.overflow_cast-m
overflow_cast-m c = turn_cast c.truncating_f64_to_i64-n.result (rw c.truncating_f64_to_i64-n.ensures c.requires.size)

pub returns : goal.returns
returns c = turn_place c.truncating_f64_to_i64-n.result (rw c.truncating_f64_to_i64-n.ensures c.requires.size)
    ∙ ap place_of c.truncating_f64_to_i64-n.ensures
