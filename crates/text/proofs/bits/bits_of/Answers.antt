-- `text::bits::bits_of` meets its contract. Assumes nothing.
use Rattle.exact.proofs.Nans.{no_nan}
use Rattle.text.proofs.Patterns.{nan_told}
use Rattle.text.proofs.bits.bits_of.Goals as goal

pub returns-then-x : goal.returns-then-x
returns-then-x c = nan_told c.args.x c.if-x.true

pub float_to_bits-result : goal.float_to_bits-result
float_to_bits-result c = no_nan c.args.x c.if-x.false
