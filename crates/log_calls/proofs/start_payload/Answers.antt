-- `log_calls::start_payload` meets its contract. Assumes nothing.
use mathlib.Core.List.{[]}
use Prim.Native.Nat.{ℕ}
use lib.Dec.{lit≤}
use lib.Ieee.{binary64, to_bits}
use lib.ListN.{replicate}
use Rattle.samples.specs.Samples.{eight_of}
use Rattle.log_calls.proofs.Fronts.{front_none, front_next, front_done}
use Rattle.log_calls.proofs.start_payload.Goals as goal

pub returns : goal.returns
returns c = let a = c.args in
    let d = replicate {A = ℕ} 8 0 in
    front_done d (eight_of (to_bits binary64 a.index)) _ 8 (front_next d [] d _ 0 (to_bits binary64 a.index) 8 (front_none d) c.put_sample.ensures) (lit≤ tt)
