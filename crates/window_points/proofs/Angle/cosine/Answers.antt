-- `window_points::Angle::cosine`: the steps are below 2^52. Assumes nothing.
use Rattle.window_points.proofs.Points.{steps_small}
use Rattle.window_points.proofs.Angle.cosine.Goals as goal

pub cosine_at-requires-clause-k_value : goal.cosine_at-requires-clause-k_value
cosine_at-requires-clause-k_value c = let a = c.args.self in
    rw (c.nearest_u64_to_f64-steps.ensures, c.nearest_u64_to_f64.ensures) (steps_small c.args.h a.i a.n c.requires a.inside.0 a.inside.1)
