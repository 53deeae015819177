-- `forms::put_mark` meets its contract. Assumes nothing.
use Rattle.forms.proofs.Marks.{mark_number, mark_float, mark_other, as_marked}
use Rattle.forms.proofs.put_mark.Goals as goal

pub returns-then-mark-eq35 : goal.returns-then-mark-eq35
returns-then-mark-eq35 c = let p = as_marked c.args.line.now c.args.at _ _ _ _ (mark_number _ _ c.if-mark-eq35.true) (c.put_decimal.ensures.place, c.put_decimal.ensures.put) in
    record { place = p.0; put = p.1 }

pub returns-then-mark-eq36 : goal.returns-then-mark-eq36
returns-then-mark-eq36 c = let p = as_marked c.args.line.now c.args.at _ _ _ _ (mark_float _ _ _ c.if-mark-eq35.false c.if-mark-eq36.true c.of_bits.ensures) (c.put_value.ensures.place, c.put_value.ensures.put) in
    record { place = p.0; put = p.1 }

pub returns : goal.returns
returns c = let p = as_marked c.args.line.now c.args.at _ _ _ _ (mark_other _ _ c.if-mark-eq35.false c.if-mark-eq36.false) (c.put_byte.ensures.place, c.put_byte.ensures.put) in
    record { place = p.0; put = p.1 }
