-- `calls::answer_buffer` meets its contract, by a law: to count two million zeros one by one is too deep. Assumes nothing.
use mathlib.Core.Path.{sym}
use Prim.Native.Nat.{ℕ}
use lib.ListN.{length-replicate}
use Rattle.calls.proofs.answer_buffer.Goals as goal

pub returns : goal.returns
returns c = sym (length-replicate {A = ℕ} 2098176 0)
