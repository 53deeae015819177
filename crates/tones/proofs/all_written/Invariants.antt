-- `tones::all_written` is safe and ends: what is left to write falls. Assumes nothing.
use Rattle.tones.proofs.all_written.Given as goal

abbrev pub decreases-loop-left : goal.decreases-loop-left
decreases-loop-left l = l.left
