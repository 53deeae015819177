-- `whole::part` meets its contract: a NaN has its own way out, and the field of the exponent tells the others. Assumes nothing.
use lib.Bits.{and_le_l}
use lib.Dec.{T}
use lib.Ieee.{binary64, fits}
use mathlib.Core.Path.{sym, subst}
use native.Mathlib.Omega.{arith}
use Rattle.exact.proofs.Nans.{no_nan}
use Rattle.whole.proofs.Fields.{part_nan, part_none, part_same, part_cut, cut_no_nan}
use Rattle.whole.proofs.part.Goals as goal
use Rattle.whole.proofs.part.Goals.{Start}

held : (c : Start) → T (fits binary64 c.args.x)
held c = subst T (sym c.well_formed.0.1) tt

pub returns-then-x : goal.returns-then-x
returns-then-x c = part_nan _ c.if-x.true

pub float_to_bits-bits : goal.float_to_bits-bits
float_to_bits-bits c = no_nan _ c.if-x.false

pub returns-then-exponent-lt1023 : goal.returns-then-exponent-lt1023
returns-then-exponent-lt1023 c = part_none _ (held c.before.before) (omega (arith, c.if-exponent-lt1023.true))

pub returns-then-exponent-ge1075 : goal.returns-then-exponent-ge1075
returns-then-exponent-ge1075 c = part_same _ (held c.before.before.before) c.requires (omega (arith, c.if-exponent-ge1075.true))

pub overflow_shr-left : goal.overflow_shr-left
overflow_shr-left c = omega (arith, c.if-exponent-ge1075.false)

pub overflow_sub-result : goal.overflow_sub-result
overflow_sub-result c = and_le_l _ _

pub float_from_bits-result : goal.float_from_bits-result
float_from_bits-result c = cut_no_nan _ _ (omega (arith, c.if-exponent-ge1075.false))

pub returns : goal.returns
returns c = part_cut _ (held c.before.before.before) (omega (arith, c.if-exponent-lt1023.false)) (omega (arith, c.if-exponent-ge1075.false))
