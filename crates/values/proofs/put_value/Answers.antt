-- `values::put_value` meets its contract. Assumes nothing.
use mathlib.Core.Path.{sym}
use lib.Dec.{lit≤}
use lib.Seq.{length-take-le}
use Rattle.values.proofs.Joins.{place_kept}
use Rattle.values.proofs.Wholes.{value_is}
use Rattle.values.proofs.put_value.Goals as goal

pub slice_bounds-text-end : goal.slice_bounds-text-end
slice_bounds-text-end c = place_kept _ _ _ _ (c.put_both-k.ensures.place, c.put_both-k.ensures.put)

pub slice_bounds-put_bytes-end : goal.slice_bounds-put_bytes-end
slice_bounds-put_bytes-end c = sym (length-take-le _ _ (place_kept _ _ _ _ (c.put_both-k.ensures.place, c.put_both-k.ensures.put)))

pub returns : goal.returns
returns c = let a = c.args in let p = value_is _ a.line.now _ a.at _ _ _ a.x (c.put_bytes.ensures.place, c.put_bytes.ensures.put) (lit≤ tt) (c.put_both-k.ensures.place, c.put_both-k.ensures.put) in
    record { place = p.0; put = p.1 }
