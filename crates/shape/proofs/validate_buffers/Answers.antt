-- `shape::validate_buffers` meets its contract. Assumes nothing.
use native.Mathlib.Omega.{arith}
use Rattle.state.proofs.Valid.{valid}
use Rattle.shape.proofs.Shape.{shape_is}
use Rattle.shape.proofs.validate_buffers.Goals as goal

pub mask_fits-requires : goal.mask_fits-requires
mask_fits-requires c = omega (arith, (valid _ c.args.tested.passes).channels_few)

pub returns : goal.returns
returns c = shape_is c.args.tested.state _ _ _ _ _ _ _ _ _ _ _ _ c.frames_to_read.ensures c.share_holds.ensures
    c.share_holds-2.ensures c.work_holds.ensures c.table_holds.ensures c.mask_fits.ensures
