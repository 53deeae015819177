-- `written::writing::write_frames` meets its contract. Assumes nothing.
use mathlib.Core.Bool.{not, true≢false}
use mathlib.Core.Path.{sym, ap, ◌∙◌}
use Rattle.written.proofs.Pieces.{range_goes, range_in}
use Rattle.written.proofs.writing.write_frames.Goals as goal

pub write_range-w-requires : goal.write_range-w-requires
write_range-w-requires c = range_in _ _ _ _ _ _ c.takes.ensures (ap not c.if-not-takes-from.false)

pub returns : goal.returns
returns c = λ f. absurd (true≢false (sym (range_goes _ _ _ c.args.from c.args.to _ c.takes.ensures (ap not c.if-not-takes-from.false)) ∙ f))
