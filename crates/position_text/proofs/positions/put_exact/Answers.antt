-- `position_text::positions::put_exact` meets its contract. Assumes nothing.
use native.Mathlib.Omega.{arith}
use Rattle.position_text.proofs.Parts.{size_room, position_put}
use Rattle.position_text.proofs.positions.put_exact.Goals as goal

pub put_exact-requires : goal.put_exact-requires
put_exact-requires c = let room = size_room c.args.b c.args.out.now _ _ (c.put_sign-next.ensures.place, c.put_sign-next.ensures.put) 69 c.requires in
    omega arith

pub returns : goal.returns
returns c =
    let k = position_put c.args.b c.args.out.now _ _ (c.put_sign-next.ensures.place, c.put_sign-next.ensures.put) _ _ _ c.requires c.size_of.ensures (c.put_exact.ensures.place, c.put_exact.ensures.put) in
    record { place = k.0; put = k.1 }
