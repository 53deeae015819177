-- `wave::cosine_at`: the line is the cosine. Assumes nothing.
use Rattle.std.proofs.Common.{◌∙◌}
use Rattle.wave.proofs.Lines.{cosine_is}
use Rattle.wave.proofs.cosine_at.Goals as goal

pub returns : goal.returns
returns c = c.line_at.ensures ∙ cosine_is c.args.k
