-- `sizes::delay_of` meets its contract. Assumes nothing.
use Rattle.std.proofs.Common.{ap, ◌∙◌}
use lib.Ieee.{Float, to_unsigned}
use Rattle.exact.specs.Doubles.{◌*f◌, ◌/f◌, two_f}
use Rattle.sizes.proofs.Delay.{small_asks, delay_small, delay_cast}
use Rattle.sizes.proofs.delay_of.Goals as goal

pub truncating_f64_to_u64-requires : goal.truncating_f64_to_u64-requires
truncating_f64_to_u64-requires c = let p = c.requires in
    let a = small_asks _ (delay_small c.args.l c.args.r1 p.0 p.1 p.2) in
    rw c.float_of-points.ensures (record { lower_bound = a.0; upper_bound = a.1 })

pub returns : goal.returns
returns c = let p = c.requires in
    let r = c.args.r1 in
    c.truncating_f64_to_u64.ensures ∙ ap (λ (x : Float). to_unsigned 64 (x *f r /f two_f)) c.float_of-points.ensures ∙ delay_cast _ _ p.0 p.1 p.2
