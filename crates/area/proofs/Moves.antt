-- Moving and reading in each channel: the reading's test of the mask, lengths, and that channels are apart. Assumes nothing.
use mathlib.Core.Path.{◌≡◌, ◌∙◌}
use mathlib.Core.Bool.{Bool}
use mathlib.Core.List.{List}
use Prim.Native.Nat.{ℕ, ◌+◌, ◌*◌, ◌≤◌}
use native.Mathlib.Omega.{arith}
use lib.Ieee.{Float}
use lib.ListN.{length, drop, length-drop}
use Rattle.channel.specs.Mask.{is_on, where_on}
use Rattle.channel.specs.Moves.{loaded}
use Rattle.channel.proofs.Switched.{where_long}
use Rattle.channel.proofs.Moves.{moved_long, loaded_long}
use Rattle.area.specs.Parts.{part_of}
use Rattle.area.specs.Moves.{moved_in, loaded_in}
use Rattle.area.proofs.Parts.{Keeps, part_long}

-- the channel's own test of the mask
pub loaded_in_is : (mask l2 : ℕ) (input : List Float) (share at read needed c : ℕ) (on : Bool) (q p ys : List Float)
    → on ≡ is_on mask c → q ≡ drop at (part_of share c input) → ys ≡ where_on on (loaded l2 q read needed p) p → ys ≡ loaded_in mask l2 input share at read needed c p
loaded_in_is mask l2 input share at read needed c on q p ys u v e = rw (← u, ← v) e

-- in each channel the length stays
pub moved_in_keeps : (fill l2 stride n : ℕ) → fill + l2 ≤ stride → Keeps (moved_in fill l2) stride n
moved_in_keeps fill l2 stride n fits c l p e = moved_long fill l2 p (omega arith) ∙ e

pub loaded_in_keeps : (mask l2 : ℕ) (input : List Float) (share at read needed stride n : ℕ) → n * share ≤ length input → at + read ≤ share → read ≤ needed → l2 + needed ≤ stride
    → Keeps (loaded_in mask l2 input share at read needed) stride n
loaded_in_keeps mask l2 input share at read needed stride n room share-fits short fits c l p e =
    let k : length (part_of share c input) ≡ share = part_long share n c input room l in
    let has : read ≤ length (drop at (part_of share c input)) = rw length-drop (omega (arith, k)) in
    where_long (is_on mask c) (loaded l2 (drop at (part_of share c input)) read needed p) p stride
    (loaded_long l2 (drop at (part_of share c input)) read needed p (omega arith) short has ∙ e) e

-- a channel's reading depends on nothing of the input but its share
pub loaded_in_apart : (mask l2 : ℕ) (x y : List Float) (share at read needed c : ℕ) (p : List Float)
    → part_of share c x ≡ part_of share c y → loaded_in mask l2 x share at read needed c p ≡ loaded_in mask l2 y share at read needed c p
loaded_in_apart mask l2 x y share at read needed c p e = rw e
