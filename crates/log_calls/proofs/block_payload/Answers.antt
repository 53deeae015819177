-- `log_calls::block_payload` meets its contract: part after part. Assumes nothing.
use mathlib.Core.List.{[], ◌++◌}
use mathlib.Core.Path.{ap, ◌∙◌}
use Prim.Native.Nat.{ℕ}
use lib.Dec.{lit≤}
use lib.Ieee.{Float, binary64, to_bits}
use lib.ListN.{replicate}
use lib.Seq.{paste}
use Rattle.log_calls.specs.Payloads.{increment}
use Rattle.samples.specs.Samples.{bytes_from, eight_of}
use Rattle.log_calls.proofs.Fronts.{front_none, front_next, front_done}
use Rattle.log_calls.proofs.block_payload.Goals as goal

pub returns : goal.returns
returns c = let a = c.args in
    let d = replicate {A = ℕ} 32 0 in
    let w1 = bytes_from a.output 0 4 in
    let w2 = w1 ++ bytes_from a.input 0 4 in
    let w3 = w2 ++ eight_of (to_bits binary64 a.t) in
    let e = increment a.output a.d in
    let w4 = w3 ++ eight_of (to_bits binary64 e) in
    let w5 = w4 ++ eight_of (to_bits binary64 a.index) in
    let x1 = c.put_little.new.bytes in
    let x2 = c.put_little-2.new.bytes in
    let x3 = c.put_sample.new.bytes in
    let x4 = c.put_sample-2.new.bytes in
    let f1 = front_next d [] d x1 0 a.output 4 (front_none d) c.put_little.ensures in
    let f2 = front_next d w1 x1 x2 4 a.input 4 f1 c.put_little-2.ensures in
    let f3 = front_next d w2 x2 x3 8 (to_bits binary64 a.t) 8 f2 c.put_sample.ensures in
    let s4 = c.put_sample-2.ensures ∙ ap (λ (y : Float). paste x3 16 (eight_of (to_bits binary64 y)) 8) c.increment_of.ensures in
    let f4 = front_next d w3 x3 x4 16 (to_bits binary64 e) 8 f3 s4 in
    front_done d w5 _ 32 (front_next d w4 x4 _ 24 (to_bits binary64 a.index) 8 f4 c.put_sample-3.ensures) (lit≤ tt)
