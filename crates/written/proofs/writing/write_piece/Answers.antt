-- `written::writing::write_piece` meets its contract. Assumes nothing.
use Rattle.written.proofs.Pieces.{gathered_as}
use Rattle.written.proofs.writing.write_piece.Goals as goal

pub returns-clause-bytes_after : goal.returns-clause-bytes_after
returns-clause-bytes_after c = gathered_as _ _ _ _ _ _ _ c.gather.ensures
