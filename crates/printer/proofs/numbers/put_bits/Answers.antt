-- `printer::numbers::put_bits` meets its contract: the digits are put where the test says that there is room. Assumes nothing.
use Rattle.text.specs.Digits.{digits_of}
use Prim.Native.Nat.{◌+◌}
use lib.ListN.{length}
use Rattle.printer.proofs.Room.{room_some, room_none}
use Rattle.printer.proofs.Samples.{bits_fitted, bits_kept_out}
use Rattle.printer.proofs.numbers.put_bits.Goals as goal

pub returns-then-not-has_room : goal.returns-then-not-has_room
unfolding digits_of
returns-then-not-has_room c = let a = c.args in let p = bits_kept_out a.out.now a.at a.x (room_none _ (a.at + 16) (length a.out.now) c.has_room.ensures c.if-not-has_room.true) in
    record { place = p.0; put = p.1 }

pub returns : goal.returns
unfolding digits_of
returns c = let a = c.args in
    let h = room_some _ (a.at + 16) (length a.out.now) c.has_room.ensures c.if-not-has_room.false in
    let p = bits_fitted a.out.now a.at a.x _ _ c.bits_of.ensures h c.put_hex.ensures in
    record { place = p.0; put = p.1 }
