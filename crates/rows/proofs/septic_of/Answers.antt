-- `rows::septic_of` is the kernel of its rows. Assumes nothing.
use lib.Ieee.{of_bits, of_int}
use Rattle.rows.proofs.Laws.{top_kernel}
use Rattle.rows.proofs.septic_of.Goals as goal

pub returns : goal.returns
unfolding of_bits of_int
returns c = top_kernel c.args.x c.args.ys.now _ _ _ _ c.horner.ensures
