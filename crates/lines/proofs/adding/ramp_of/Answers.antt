-- `lines::adding::ramp_of` meets its contract. Assumes nothing.
use mathlib.Core.Path.{ap, ◌∙◌}
use Prim.Native.Nat.{ℕ, ◌+◌, ◌*◌}
use native.Mathlib.Omega.{arith}
use Rattle.lines.proofs.Grows.{ramp_some}
use Rattle.lines.proofs.adding.ramp_of.Goals as goal

pub returns : goal.returns
returns c = ramp_some c.args.n _ _ _ (omega arith) c.if-flat.false (c.of_u64-2.ensures ∙ ap (λ (x : ℕ). x * (x + 1)) c.from-m.ensures) c.shift_left.ensures
