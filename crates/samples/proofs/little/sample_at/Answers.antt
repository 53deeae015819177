-- `samples::little::sample_at` meets its contract: the number of the eight bytes. Assumes nothing.
use Rattle.std.proofs.Common.{ap, ◌∙◌}
use lib.Ieee.{binary64, of_bits}
use Rattle.samples.proofs.Bytes.{eight_join}
use Rattle.samples.proofs.little.sample_at.Goals as goal

pub returns : goal.returns
returns c = c.of_bits.ensures ∙ ap (of_bits binary64) (c.from_le_bytes.ensures ∙ eight_join _ _ _ c.copy_from_slice.ensures.after)
