-- `written::writing::write_range` meets its contract. Assumes nothing.
use native.Mathlib.Omega.{arith}
use Rattle.written.proofs.Pieces.{range_room, written_as}
use borrow.Author.Rules.{rules}
use Rattle.written.proofs.writing.write_range.Goals as goal

pub write_pieces-requires : goal.write_pieces-requires
write_pieces-requires c = let p = c.requires in
    let r = range_room _ _ _ _ _ _ p.1 p.2 (omega arith) p.5 c.samples_in-first.ensures.0 c.samples_in-most.ensures.0 in
    (p.0, r.0, p.3, r.1, r.2, search rules)

pub returns : goal.returns
returns c = written_as _ _ _ _ _ _ _ c.samples_in-first.ensures.0 c.samples_in-most.ensures.0 c.write_pieces.ensures
