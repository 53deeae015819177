-- `kernel_runs::kernel_at` meets its contract. Assumes nothing.
use Rattle.kernel_runs.proofs.Runs.{kernel_on_lem}
use Rattle.kernel_runs.proofs.kernel_at.Goals as goal

pub returns : goal.returns
returns c = kernel_on_lem _ _ _ _ _ _ c.nbr_points.ensures c.interp.ensures
