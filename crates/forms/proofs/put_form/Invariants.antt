-- `forms::put_form` meets its contract: each turn puts what one byte stands for. Assumes nothing.
use Prim.Native.Nat.{◌≤◌, ◌-◌}
use lib.ListN.{length}
use Rattle.forms.proofs.Turns.{Formed}
use Rattle.forms.proofs.put_form.Given as goal

abbrev pub invariant-loop-i : goal.invariant-loop-i
invariant-loop-i l = (l.i ≤ length l.form) × Formed l.initial.line l.form l.numbers l.i l.at l.k l.line

abbrev pub decreases-loop-i : goal.decreases-loop-i
decreases-loop-i l = length l.form - l.i
