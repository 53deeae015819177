-- `printer::bytes::put_bytes` meets its contract: the bytes are put where the test says that there is room. Assumes nothing.
use mathlib.Core.Path.{refl}
use Prim.Native.Nat.{◌+◌}
use native.Mathlib.Omega.{arith}
use lib.ListN.{length}
use Rattle.std.proofs.lemmas.Slice.{put_mid-paste}
use Rattle.printer.proofs.Room.{room_some, room_none}
use Rattle.printer.proofs.Texts.{fitted, kept_out}
use Rattle.printer.proofs.bytes.put_bytes.Goals as goal

pub returns-then-not-has_room : goal.returns-then-not-has_room
returns-then-not-has_room c = let a = c.args in let p = kept_out a.out.now a.at a.text.now _ refl (room_none _ (a.at + length a.text.now) (length a.out.now) c.has_room.ensures c.if-not-has_room.true) in
    record { place = p.0; put = p.1 }

pub returns : goal.returns
returns c = let a = c.args in
    let h = room_some _ (a.at + length a.text.now) (length a.out.now) c.has_room.ensures c.if-not-has_room.false in
    let p = fitted a.out.now a.at a.text.now _ refl _ h (put_mid-paste _ _ _ _ _ _ c.copy_from_slice.ensures.after (omega arith) refl) in
    record { place = p.0; put = p.1 }
