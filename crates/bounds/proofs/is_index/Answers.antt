-- `bounds::is_index` meets its contract. Assumes nothing.
use mathlib.Core.Path.{refl}
use lib.Ieee.{of_bits, neg}
use Rattle.bounds.proofs.is_index.Goals as goal

pub returns : goal.returns
unfolding of_bits neg
returns c = refl
