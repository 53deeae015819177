-- `grid_places::blend_place` meets its contract. Assumes nothing.
use Rattle.std.proofs.Common.{ap, ◌∙◌}
use lib.Ieee.{Float}
use Rattle.exact.specs.Doubles.{◌*f◌}
use Rattle.whole.specs.declared.Parts.{Parts}
use Rattle.whole.specs.Rounded.{split_of}
use Rattle.grid_places.proofs.blend_place.Goals as goal

pub returns : goal.returns
returns c = ap (λ (s : Parts). s.frac) c.split-s.ensures ∙ ap (λ (y : Float). (split_of (c.args.x *f y)).frac) c.nearest_u64_to_f64.ensures
