-- `kernel_frames::fill_channel` meets its contract. Assumes nothing.
use Rattle.kernel_frames.proofs.Fills.{fill_asks, filled}
use Rattle.kernel_frames.proofs.fill_channel.Goals as goal

pub kernel_run-requires : goal.kernel_run-requires
kernel_run-requires c = fill_asks _ c.args.work.now c.args.places.now c.args.fracs.now c.args.share.now c.args.k c.args.n c.requires.n_in_bounds c.requires.n_in_bounds_2.0 c.requires.n_in_bounds_2.1.0 c.requires.n_in_bounds_2.1.1

pub returns-then-on : goal.returns-then-on
returns-then-on c = filled _ c.args.work.now c.args.places.now c.args.fracs.now c.args.share.now _ c.args.k c.args.n _ c.if-on.true c.requires.n_in_bounds c.kernel_run.ensures
