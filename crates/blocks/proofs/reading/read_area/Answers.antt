-- `blocks::reading::read_area` meets its contract. Assumes nothing.
use Rattle.blocks.proofs.Pieces.{pieces_as}
use Rattle.blocks.proofs.reading.read_area.Goals as goal

pub returns : goal.returns
returns c = pieces_as _ _ _ _ _ _ _ _ _ _ _ c.samples_in-most.ensures.0 c.read_pieces.ensures
