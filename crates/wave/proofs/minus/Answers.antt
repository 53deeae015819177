-- `wave::minus` negates the number, and then makes it a double. Assumes nothing.
use Rattle.std.proofs.Common.{ap, ◌∙◌, rules}
use lib.Ieee.{binary64, of_int}
use Rattle.wave.proofs.Places.{minus_asks, minus_is}
use Rattle.wave.proofs.minus.Goals as goal

pub overflow_sub-w : goal.overflow_sub-w
overflow_sub-w c = minus_asks c.args.w (search rules)

pub returns : goal.returns
returns c = let w = c.args.w in
    c.nearest_i64_to_f64.ensures ∙ ap (of_int binary64) (minus_is w (search rules))
