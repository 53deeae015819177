-- `printer::numbers::put_decimal` meets its contract: the digits that `io` answers are the number's text. Assumes nothing.
use Rattle.printer.proofs.Decimals.{decimal_is}
use Rattle.printer.proofs.Texts.{same_text}
use Rattle.printer.proofs.numbers.put_decimal.Goals as goal

pub returns : goal.returns
returns c = let a = c.args in
    let e = c.decimal-k.ensures in
    let p = same_text a.out.now a.at _ _ _ _ (decimal_is c.decimal-k.result a.n c.ranges.n.fits e.len _ e.digits) (c.put_bytes.ensures.place, c.put_bytes.ensures.put) in
    record { place = p.0; put = p.1 }
