-- `blocks::ahead::read_frames` meets its contract. Assumes nothing.
use mathlib.Core.Bool.{not, true≢false}
use mathlib.Core.Path.{sym, ap, ◌∙◌}
use Rattle.blocks.proofs.Held.{frames_go, frames_stop, unread_is, goes_has}
use Rattle.blocks.proofs.ahead.read_frames.Goals as goal

pub returns-then-not-fit-has_held : goal.returns-then-not-fit-has_held
returns-then-not-fit-has_held c = record { frames_read = λ t. absurd (frames_stop _ _ _ _ _ _ c.takes.ensures (ap not c.if-not-fit-has_held.true) t); unread = λ f. unread_is _ _ _ _ _ _ c.takes.ensures _ _ _ _ _ _ c.unread.ensures.0 c.unread.ensures.1 c.unread.ensures.2 c.unread.ensures.4 }

pub read_behind-requires : goal.read_behind-requires
read_behind-requires c = let g = goes_has _ _ _ _ _ (frames_go _ _ _ _ _ _ c.takes.ensures (ap not c.if-not-fit-has_held.false)) in
    (g.block.some, g.block.channels_few, g.wide, g.block.frames_few, g.small, g.block.has, g.frame)

pub returns : goal.returns
returns c = record { frames_read = λ t. c.read_behind.ensures; unread = λ f. absurd (true≢false (sym (frames_go _ _ _ _ _ _ c.takes.ensures (ap not c.if-not-fit-has_held.false)) ∙ f)) }
