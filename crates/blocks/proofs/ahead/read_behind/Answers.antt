-- `blocks::ahead::read_behind` meets its contract. Assumes nothing.
use Rattle.blocks.proofs.Held.{frame_room, frames_read}
use borrow.Author.Rules.{rules}
use Rattle.blocks.proofs.ahead.read_behind.Goals as goal

pub read_area-p-requires : goal.read_area-p-requires
read_area-p-requires c = (c.requires.0, c.requires.1, c.requires.3, search rules, frame_room c.args.channels _ c.requires.2)

pub reading_of-requires : goal.reading_of-requires
reading_of-requires c = (c.requires.0, c.requires.1, c.read_area-p.ensures.broken, c.read_area-next.ensures.broken)

pub returns : goal.returns
returns c = frames_read _ _ c.requires.0 c.requires.2 _ _ _ _ c.requires.5 c.put_held.ensures _ _ _ c.read_area-p.ensures _ _ _ _ c.read_area-next.ensures _ _ _ _ c.reading_of.ensures
