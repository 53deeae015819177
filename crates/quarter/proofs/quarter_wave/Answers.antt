-- `quarter::quarter_wave` hands out the definition's table. Assumes nothing.
use mathlib.Core.Path.{refl}
use Rattle.quarter.specs.Wave.{wave}
use Rattle.quarter.proofs.quarter_wave.Goals as goal

pub returns : goal.returns
unfolding wave
returns c = refl
