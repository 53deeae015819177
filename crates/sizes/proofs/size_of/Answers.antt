-- `sizes::size_of` meets its contract: a double below 0 is no frame, one from 2 ^ 17 on is too many, and any other has its whole part. Assumes nothing.
use Rattle.std.proofs.Common.{sym, ◌∙◌, lit≤}
use lib.Ieee.{of_bits}
use Rattle.whole.proofs.Sizes.{part_asks}
use Rattle.sizes.proofs.Truncated.{size_none, size_cut, size_large}
use Rattle.sizes.proofs.size_of.Goals as goal

pub returns-then-x-2 : goal.returns-then-x-2
returns-then-x-2 c = sym (size_none _ c.if-x-2.true)

pub truncating_f64_to_u64-n-requires : goal.truncating_f64_to_u64-n-requires
unfolding of_bits
truncating_f64_to_u64-n-requires c =
    let a = part_asks 17 c.args.x (lit≤ tt) c.if-x-2.false c.if-x.true in
    record { lower_bound = a.0; upper_bound = a.1 }

pub returns-then-x : goal.returns-then-x
returns-then-x c = c.size_of_count.ensures ∙ size_cut _ _ c.if-x.true c.if-x-2.false c.truncating_f64_to_u64-n.ensures

pub returns : goal.returns
returns c = sym (size_large _ c.if-x.false)
