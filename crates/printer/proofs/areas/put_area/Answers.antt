-- `printer::areas::put_area` meets its contract: an area with samples is put where the test says that there is room. Assumes nothing.
use Rattle.std.proofs.Common.{◌+◌, ◌*◌, ◌<◌, length, sym, ◌∙◌, eqb-true, arith}
use Rattle.printer.proofs.Room.{room_some, room_none}
use Rattle.printer.proofs.Samples.{area_none, area_fitted, area_kept_out}
use Rattle.printer.proofs.Texts.{same_text}
use Rattle.printer.proofs.areas.put_area.Goals as goal

pub returns-then-is_empty : goal.returns-then-is_empty
returns-then-is_empty c = let a = c.args in
    let p = same_text a.out.now a.at _ _ _ _ (area_none a.xs.now (eqb-true _ 0 (sym c.is_empty.ensures ∙ c.if-is_empty.true))) (c.put_byte.ensures.place, c.put_byte.ensures.put) in
    record { place = p.0; put = p.1 }

pub returns-then-not-has_room : goal.returns-then-not-has_room
returns-then-not-has_room c = let a = c.args in
    let s : 0 < length a.xs.now = grind arith in
    let p = area_kept_out a.out.now a.at a.xs.now s (room_none _ (a.at + 16 * length a.xs.now) (length a.out.now) c.has_room.ensures c.if-not-has_room.true) in
    record { place = p.0; put = p.1 }

pub returns : goal.returns
returns c = let a = c.args in
    let s : 0 < length a.xs.now = grind arith in
    let h = room_some _ (a.at + 16 * length a.xs.now) (length a.out.now) c.has_room.ensures c.if-not-has_room.false in
    let p = area_fitted a.out.now a.at a.xs.now s _ h c.put_samples.ensures in
    record { place = p.0; put = p.1 }
