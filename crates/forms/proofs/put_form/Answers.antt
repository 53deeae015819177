-- `forms::put_form` meets its contract: each turn puts what one byte stands for. Assumes nothing.
use mathlib.Core.Path.{refl}
use native.Mathlib.Omega.{arith}
use lib.ListN.{get_or}
use Rattle.forms.proofs.Turns.{formed_none, formed_next, formed_done, few_of}
use Rattle.forms.proofs.put_form.Goals as goal

pub loop-i-init : goal.loop-i-init
loop-i-init c = (omega arith, formed_none _ _ _)

pub overflow_add-k : goal.overflow_add-k
overflow_add-k c = omega (arith, c.loop-i.invariant.1.few, few_of (get_or c.args.form.now c.loop-i.i 0) _ c.taken_by-k.ensures)

pub loop-i-preserved : goal.loop-i-preserved
loop-i-preserved c = let l = c.loop-i in
    (omega arith, formed_next _ _ _ _ _ _ _ _ _ _ _ _ l.invariant.1 refl c.number_at.ensures c.put_mark-at.ensures.place c.put_mark-at.ensures.put c.put_mark-at.auto.line c.taken_by-k.ensures)

pub shape_of-line : goal.shape_of-line
shape_of-line c = c.loop-i.invariant.1.long

pub returns : goal.returns
returns c = let p = formed_done _ _ _ _ _ _ _ _ c.loop-i.invariant.1 (omega arith) in
    record { place = p.0; put = p.1 }
