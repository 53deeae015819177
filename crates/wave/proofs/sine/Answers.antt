-- `wave::sine`: the line is the sine. Assumes nothing.
use Rattle.std.proofs.Common.{[], ap, ◌∙◌}
use lib.Ieee.{Float}
use Rattle.error.specs.Refusals.{given, unless}
use Rattle.whole.specs.Small.{small}
use Rattle.wave.proofs.Lines.{sine_is}
use Rattle.wave.proofs.sine.Goals as goal

pub returns : goal.returns
returns c = let k = c.args.k in
    c.answered.ensures ∙ ap (λ (y : Float). unless (small k) 11 [] (given y)) (sine_is k)
