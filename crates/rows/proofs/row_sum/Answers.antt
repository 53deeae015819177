-- `rows::row_sum` is the row's sum. Assumes nothing.
use mathlib.Core.Logic.{inl, inr, ⊎_elim}
use mathlib.Core.Path.{◌≡◌, ◌∙◌}
use borrow.Author.Rules.{rules}
use mir.Syntax.{w32}
use mir.Val.{SFits}
use mir.ValLaws.{to_z-of_z}
use Rattle.rows.proofs.Laws.{sum_turns, sum_next, sum_done}
use Rattle.rows.proofs.row_sum.Goals as goal

pub loop-c-init : goal.loop-c-init
loop-c-init c =
    let p : c.into_iter-c-iterator.result.a.rest.now ≡ c.args.row.now = search rules in
    let q : c.into_iter-c-iterator.result.b.rest.now ≡ c.args.ys.now = search rules in
    rw (p, q) (sum_turns _ _)

pub loop-c-preserved : goal.loop-c-preserved
loop-c-preserved c =
    let fits : SFits w32 c.in-Some.c.now = record { sfits = c.step-arg-1.given } in
    let stepped = simp (to_z-of_z w32 c.in-Some.c.now fits) at c.step-sum.ensures in
    let e = c.in-Some.ensures.steps in
    sum_next c.loop-c.sum _ _ _ _ _ c.in-Some.c.now c.in-Some.y.now e.0 e.1 stepped c.loop-c.invariant

pub returns : goal.returns
returns c =
    let l = c.loop-c in
    c.unwrap_or.ensures
    ∙ sum_done l.sum l.c-iterator.a.rest.now l.c-iterator.b.rest.now
    (⊎_elim (λ w. inl w.1.0) (λ w. inr w.1.0) c.in-None.ensures.steps) l.invariant
