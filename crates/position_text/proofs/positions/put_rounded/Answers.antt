-- `position_text::positions::put_rounded` meets its contract. Assumes nothing.
use native.Mathlib.Omega.{arith}
use Rattle.position_text.proofs.Parts.{size_room, rounded_position_put}
use Rattle.position_text.proofs.positions.put_rounded.Goals as goal

pub put_rounded-requires : goal.put_rounded-requires
put_rounded-requires c = let room = size_room c.args.b c.args.out.now _ _ (c.put_sign-next.ensures.place, c.put_sign-next.ensures.put) 36 c.requires in
    omega arith

pub returns : goal.returns
returns c =
    let k = rounded_position_put c.args.b c.args.out.now _ _ (c.put_sign-next.ensures.place, c.put_sign-next.ensures.put) _ _ _ c.requires c.size_of.ensures (c.put_rounded.ensures.place, c.put_rounded.ensures.put) in
    record { place = k.0; put = k.1 }
