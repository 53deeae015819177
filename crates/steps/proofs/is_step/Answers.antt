-- `steps::is_step` meets its contract: a NaN has its own way out. Assumes nothing.
use mathlib.Core.Path.{sym, subst}
use mathlib.Mathlib.Data.Bool.Basic.{or-eq-false-eq-eq-false-and-eq-false}
use lib.Dec.{T}
use lib.Ieee.{ne}
use Rattle.exact.proofs.Nans.{no_nan}
use Rattle.steps.proofs.Steps.{step_none, step_some}
use Rattle.steps.proofs.is_step.Goals as goal

pub returns-then-x-fresh : goal.returns-then-x-fresh
returns-then-x-fresh c = let a = c.args in
    step_none a.x a.r _ c.step_of-fresh.ensures c.if-x-fresh.true

pub float_to_bits-result : goal.float_to_bits-result
float_to_bits-result c = let x = c.args.x in no_nan x ((or-eq-false-eq-eq-false-and-eq-false (ne x x) _).0 c.if-x-fresh.false).0

pub float_to_bits-result-2 : goal.float_to_bits-result-2
float_to_bits-result-2 c = let x = c.args.x in
    no_nan c.step_of-fresh.result ((or-eq-false-eq-eq-false-and-eq-false (ne x x) _).0 c.if-x-fresh.false).1

pub returns : goal.returns
returns c = let a = c.args in
    step_some a.x a.r _ c.step_of-fresh.ensures (subst T (sym c.well_formed.0.1) tt) c.if-x-fresh.false
