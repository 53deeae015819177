-- `values::put_plain` meets its contract. Assumes nothing.
use mathlib.Core.Path.{sym}
use lib.Dec.{lit≤}
use lib.Seq.{length-take-le}
use Rattle.values.proofs.Joins.{place_kept}
use Rattle.values.proofs.Wholes.{plain_is}
use Rattle.values.proofs.put_plain.Goals as goal

pub slice_bounds-text-end : goal.slice_bounds-text-end
slice_bounds-text-end c = place_kept _ _ _ _ (c.put_decimal-k.ensures.place, c.put_decimal-k.ensures.put)

pub slice_bounds-put_bytes-end : goal.slice_bounds-put_bytes-end
slice_bounds-put_bytes-end c = sym (length-take-le _ _ (place_kept _ _ _ _ (c.put_decimal-k.ensures.place, c.put_decimal-k.ensures.put)))

pub returns : goal.returns
returns c = let a = c.args in let p = plain_is _ a.line.now _ a.at _ _ _ a.x (c.put_bytes.ensures.place, c.put_bytes.ensures.put) _ c.bits_of.ensures (lit≤ tt) (c.put_decimal-k.ensures.place, c.put_decimal-k.ensures.put) in
    record { place = p.0; put = p.1 }
