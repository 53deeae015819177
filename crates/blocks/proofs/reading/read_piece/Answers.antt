-- `blocks::reading::read_piece` meets its contract. Assumes nothing.
use Rattle.std.proofs.Common.{refl}
use Rattle.blocks.proofs.Pieces.{piece_read}
use Rattle.blocks.proofs.reading.read_piece.Goals as goal

pub returns : goal.returns
returns c = piece_read _ _ _ _ _ _ _ _ _ _ _ c.least-want.ensures c.requires.4 c.fill-filled.ensures refl c.spread.ensures
