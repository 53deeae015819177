-- `kernel_runs::run` meets its contract. Assumes nothing.
use native.Mathlib.Omega.{arith}
use Rattle.kernel_runs.proofs.Runs.{run_none, run_asks, run_next, run_done}
use Rattle.kernel_runs.proofs.run.Goals as goal

pub loop-k-init : goal.loop-k-init
loop-k-init g c = (omega arith, run_none _ _ _ _ _)

pub kernel_at-requires : goal.kernel_at-requires
kernel_at-requires g c =
    let w = run_asks g.K.Kernel.degree c.args.work.now c.args.places.now c.args.fracs.now c.args.out.now c.loop-k.k c.requires (omega arith) in
    rw c.degree.ensures w.1

pub offset_bounds-out-k : goal.offset_bounds-out-k
offset_bounds-out-k g c = omega (arith, c.loop-k.invariant.1.long)

pub bounds-out-k : goal.bounds-out-k
bounds-out-k g c = omega (arith, c.loop-k.invariant.1.long)

pub loop-k-preserved : goal.loop-k-preserved
loop-k-preserved g c = (omega arith, run_next _ _ _ _ _ _ c.loop-k.k _ c.loop-k.invariant.1 (omega arith) (rw c.degree.ensures at c.kernel_at.ensures))

pub shape_of-out : goal.shape_of-out
shape_of-out g c = c.loop-k.invariant.1.long

pub returns : goal.returns
returns g c = run_done _ _ _ _ _ _ c.loop-k.k c.loop-k.invariant.1 (omega arith)
