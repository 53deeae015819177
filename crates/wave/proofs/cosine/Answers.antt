-- `wave::cosine`: the line is the cosine. Assumes nothing.
use Rattle.std.proofs.Common.{[], ap, ◌∙◌}
use lib.Ieee.{Float}
use Rattle.error.specs.Refusals.{given, unless}
use Rattle.whole.specs.Small.{small}
use Rattle.wave.proofs.Lines.{cosine_is}
use Rattle.wave.proofs.cosine.Goals as goal

pub returns : goal.returns
returns c = let k = c.args.k in
    c.answered.ensures ∙ ap (λ (y : Float). unless (small k) 11 [] (given y)) (cosine_is k)
