-- `position_text::positions::put_sign` meets its contract. Assumes nothing.
use native.Mathlib.Omega.{arith}
use Rattle.printer.proofs.Texts.{same_text}
use Rattle.values.proofs.Joins.{nothing_put}
use Rattle.position_text.proofs.Cases.{sign_some, sign_none}
use Rattle.position_text.proofs.positions.put_sign.Goals as goal

pub returns-then-is_negative : goal.returns-then-is_negative
returns-then-is_negative c = let a = c.args in
    let k = same_text a.out.now 0 _ _ _ _ (sign_some a.b _ c.is_negative.ensures c.if-is_negative.true) (c.put_byte.ensures.place, c.put_byte.ensures.put) in
    record { place = k.0; put = k.1 }

pub returns : goal.returns
returns c = let a = c.args in
    let k = same_text a.out.now 0 _ _ _ _ (sign_none a.b _ c.is_negative.ensures c.if-is_negative.false) (nothing_put a.out.now 0 (omega arith)) in
    record { place = k.0; put = k.1 }
