-- `samples::little::put_sample` meets its contract. Assumes nothing.
use mathlib.Core.Path.{ap, ◌∙◌}
use Prim.Native.Nat.{ℕ}
use lib.Seq.{paste}
use Rattle.samples.specs.Samples.{eight_of}
use Rattle.samples.proofs.little.put_sample.Goals as goal

pub returns : goal.returns
returns c = let a = c.args in
    c.put_little.ensures ∙ ap (λ (n : ℕ). paste a.bytes.now a.at (eight_of n) 8) c.bits_of.ensures
