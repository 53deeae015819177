-- `rows::horner` is Horner over the rows. Assumes nothing.
use native.Mathlib.Omega.{arith}
use mathlib.Core.Path.{◌∙◌, ◌≡◌, subst, sym}
use mathlib.Core.List.{[]}
use lib.ListN.{drop}
use Prim.Native.Nat.{◌+◌}
use lib.Ieee.{Float}
use Rattle.std.proofs.Common.{Some}
use Rattle.rows.proofs.Laws.{horner_none, horner_next, horner_done, horner_from}
use Rattle.rows.specs.Turns.{top}
use Rattle.rows.proofs.horner.Goals as goal

pub loop-row-init : goal.loop-row-init
loop-row-init g c = horner_none _ _ _

pub loop-row-preserved : goal.loop-row-preserved
loop-row-preserved g c = let l = c.loop-row in
    let n = horner_next c.args.x c.args.ys.now l.acc c.args.rows.now l.row-index [] c.row_sum.result (omega (arith, c.told-rows)) c.row_sum.ensures l.invariant in
    subst (λ (v : Float). horner_from c.args.x c.args.ys.now (Some v) (drop (l.row-index + 1) c.args.rows.now) ≡ top c.args.x c.args.ys.now c.args.rows.now) (sym c.next.ensures) n

pub returns : goal.returns
returns g c = c.unwrap_or.ensures ∙ horner_done c.args.x c.args.ys.now c.loop-row.acc c.args.rows.now c.loop-row.row-index (omega (arith, c.told-rows)) c.loop-row.invariant
