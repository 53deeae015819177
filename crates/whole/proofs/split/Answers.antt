-- `whole::split` meets its contract. Assumes nothing.
use mathlib.Core.Path.{ap}
use lib.Ieee.{Float}
use Rattle.exact.specs.Doubles.{◌-f◌}
use Rattle.whole.specs.declared.Parts.{Parts}
use Rattle.whole.proofs.split.Goals as goal

abbrev parts : Float → Float → Parts
parts x y = record { floor = y; frac = x -f y }

pub returns : goal.returns
returns c = ap (parts c.args.x) c.floor-y.ensures
