-- `log_calls::setting_payload` meets its contract. Assumes nothing.
use mathlib.Core.List.{[], ◌++◌}
use Prim.Native.Nat.{ℕ}
use lib.Dec.{lit≤}
use lib.ListN.{replicate}
use Rattle.samples.specs.Samples.{bytes_from, eight_of}
use Rattle.log_calls.proofs.Fronts.{front_none, front_next, front_done}
use Rattle.log_calls.proofs.setting_payload.Goals as goal

pub returns : goal.returns
returns c = let a = c.args in
    let d = replicate {A = ℕ} 9 0 in
    let w = bytes_from a.what 0 1 in
    let x = c.put_little.new.bytes in
    let first = front_next d [] d x 0 a.what 1 (front_none d) c.put_little.ensures in
    front_done d (w ++ eight_of a.value) _ 9 (front_next d w x _ 1 a.value 8 first c.put_little-2.ensures) (lit≤ tt)
