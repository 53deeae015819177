-- `position_text::put_rounded_position` meets its contract. Assumes nothing.
use mathlib.Core.Path.{sym}
use lib.Seq.{length-take-le}
use Rattle.values.proofs.Joins.{place_kept}
use Rattle.position_text.proofs.Most.{rounded_position_most}
use Rattle.position_text.proofs.Parts.{put_from}
use Rattle.position_text.proofs.put_rounded_position.Goals as goal

pub slice_bounds-text-end : goal.slice_bounds-text-end
slice_bounds-text-end c = place_kept _ _ _ _ (c.put_rounded-k.ensures.place, c.put_rounded-k.ensures.put)

pub slice_bounds-put_bytes-end : goal.slice_bounds-put_bytes-end
slice_bounds-put_bytes-end c = sym (length-take-le _ _ (place_kept _ _ _ _ (c.put_rounded-k.ensures.place, c.put_rounded-k.ensures.put)))

pub returns : goal.returns
returns c = let a = c.args in
    let k = put_from _ a.out.now _ _ a.at _ _ _ (rounded_position_most a.b) (c.put_rounded-k.ensures.place, c.put_rounded-k.ensures.put) (c.put_bytes.ensures.place, c.put_bytes.ensures.put) in
    record { place = k.0; put = k.1 }
