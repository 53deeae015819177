-- `sincs::make_sincs`: refusal 11, refusal 8, or the table. Assumes nothing.
use Rattle.std.proofs.Common.{◌*◌, sym, ◌∙◌, arith}
use Rattle.window_points.proofs.Ends.{ends_argument, ends_shape, ends_done}
use Rattle.sincs.proofs.Bounds.{tests, joined}
use Rattle.sincs.proofs.make_sincs.Goals as goal

pub returns-then-not-product_holds-cutoff_holds : goal.returns-then-not-product_holds-cutoff_holds
returns-then-not-product_holds-cutoff_holds c = ends_argument _ (c.args.npoints * c.args.factor) c.args.sincs.now _ (sym (joined c.product_holds.ensures c.cutoff_holds.ensures) ∙ c.if-not-product_holds-cutoff_holds.true)

pub overflow_mul-npoints : goal.overflow_mul-npoints
overflow_mul-npoints c = record { fits = omega (arith, (tests c.args.npoints c.args.factor c.args.cutoff (sym (joined c.product_holds.ensures c.cutoff_holds.ensures) ∙ c.if-not-product_holds-cutoff_holds.false)).0.most) }

pub returns-then-sincs-npoints : goal.returns-then-sincs-npoints
returns-then-sincs-npoints c = ends_shape _ (c.args.npoints * c.args.factor) c.args.sincs.now _ (sym (joined c.product_holds.ensures c.cutoff_holds.ensures) ∙ c.if-not-product_holds-cutoff_holds.false) c.if-sincs-npoints.true

pub returns : goal.returns
returns c = ends_done _ (c.args.npoints * c.args.factor) c.args.sincs.now _ _ (sym (joined c.product_holds.ensures c.cutoff_holds.ensures) ∙ c.if-not-product_holds-cutoff_holds.false) c.if-sincs-npoints.false c.fill.ensures
