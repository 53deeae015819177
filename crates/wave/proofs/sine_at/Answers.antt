-- `wave::sine_at`: the line is the sine. Assumes nothing.
use Rattle.std.proofs.Common.{◌∙◌}
use Rattle.wave.proofs.Lines.{sine_is}
use Rattle.wave.proofs.sine_at.Goals as goal

pub returns : goal.returns
returns c = c.line_at.ensures ∙ sine_is c.args.k
