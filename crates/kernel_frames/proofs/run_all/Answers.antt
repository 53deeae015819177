-- `kernel_frames::run_all` meets its contract. Assumes nothing.
use native.Mathlib.Omega.{arith}
use Rattle.kernel_frames.proofs.Joined.{kernel_asks, kernel_ran}
use Rattle.kernel_frames.proofs.run_all.Goals as goal

pub run_kernel-requires : goal.run_kernel-requires
run_kernel-requires c = let p = c.requires in
    let k = kernel_asks _ _ _ _ _ c.in-Polynomial.is p.kind_value.1 p.n_bound.1 in
    record { table_len = k.0; needed_bound = p.needed_bound; stride_value = p.stride_value; n_bound = (p.n_bound.0, k.1); in_bounds = (omega arith, omega arith) }

pub returns-in-Polynomial : goal.returns-in-Polynomial
returns-in-Polynomial c = kernel_ran c.args.kind _ c.args.table.now c.args.needed c.args.mask c.args.work.now c.args.stride c.args.t c.args.d c.args.i c.args.n c.args.at c.args.share c.args.channels c.args.out.now _ c.in-Polynomial.is c.run_kernel.ensures
