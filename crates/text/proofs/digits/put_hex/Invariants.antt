-- `text::digits::put_hex` meets its contract: each turn puts one digit more. Assumes nothing.
use Prim.Native.Nat.{◌-◌, ◌≤◌}
use Rattle.text.proofs.Glyphs.{Put}
use Rattle.text.proofs.digits.put_hex.Given as goal

abbrev pub invariant-loop-k : goal.invariant-loop-k
invariant-loop-k l = (l.k ≤ 16) × Put l.initial.buf l.at l.n l.buf l.k

abbrev pub decreases-loop-k : goal.decreases-loop-k
decreases-loop-k l = 16 - l.k
