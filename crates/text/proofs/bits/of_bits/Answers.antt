-- `text::bits::of_bits` meets its contract. Assumes nothing.
use Rattle.text.proofs.Patterns.{nan_pattern, no_nan_pattern}
use Rattle.text.proofs.bits.of_bits.Goals as goal

pub returns-then-n-gt9218868437227405312 : goal.returns-then-n-gt9218868437227405312
returns-then-n-gt9218868437227405312 c = nan_pattern c.args.n c.if-n-gt9218868437227405312.true

pub float_from_bits-result : goal.float_from_bits-result
float_from_bits-result c = no_nan_pattern c.args.n c.if-n-gt9218868437227405312.false
