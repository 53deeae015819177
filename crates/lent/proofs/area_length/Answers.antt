-- `lent::area_length` meets its contract. Assumes nothing.
use mathlib.Core.Path.{◌∙◌}
use Rattle.lent.proofs.Lengths.{area_channels, area_frames, area_all}
use Rattle.lent.proofs.area_length.Goals as goal

pub returns-then-channels-gt16 : goal.returns-then-channels-gt16
returns-then-channels-gt16 c = area_channels _ _ c.if-channels-gt16.true

pub returns-then-frames-gt65536 : goal.returns-then-frames-gt65536
returns-then-frames-gt65536 c = area_frames _ _ c.if-channels-gt16.false c.if-frames-gt65536.true

pub returns : goal.returns
returns c = c.samples_in.ensures.0 ∙ area_all _ _ c.if-channels-gt16.false c.if-frames-gt65536.false
