-- `interpolation::place` meets its contract. The invariant: each turn has moved one whole time from the parts to the index. Assumes nothing.
use Rattle.std.proofs.Common.{ℕ, ◌+◌, ◌-◌, ◌<◌, ◌≤◌, pos, ◌-ℤ◌, nat_abs, arith, w64, to_z, of_z}
use mir.ValLaws.{to_z-of_z}
use Rattle.interpolation.specs.declared.Start.{Start}
use Rattle.interpolation.proofs.Integers.{lowered}
use Rattle.interpolation.proofs.Carries.{Begun, carried_none, carried_next, carried_fits, carried_done}
use Rattle.interpolation.proofs.place.Goals as goal

-- where the loop begins
module _ (start : Start) (factor ahead : ℕ) (h : nat_abs start.index ≤ 4503599627370496) (P : 0 < factor) where
  begun : Begun start factor ahead (to_z w64 (of_z w64 (to_z w64 (of_z w64 start.index) -ℤ pos 1))) (start.parts + factor + ahead - 1)
  begun = record { lower = (lowered start.index h).1; further = omega arith }

pub overflow_sub-index : goal.overflow_sub-index
overflow_sub-index c = (lowered c.args.start.index c.requires.0.0).0

pub overflow_add-parts : goal.overflow_add-parts
overflow_add-parts c = omega arith

pub overflow_add-parts-2 : goal.overflow_add-parts-2
overflow_add-parts-2 c = omega arith

pub overflow_sub-parts : goal.overflow_sub-parts
overflow_sub-parts c = omega arith

pub loop-parts-init : goal.loop-parts-init
loop-parts-init c = carried_none _ _ _

pub overflow_add-index : goal.overflow_add-index
overflow_add-index c = carried_fits (begun c.args.start c.args.factor c.args.ahead c.requires.0.0 c.requires.0.2) c.loop-parts.invariant c.requires.0.2 (omega arith) c.requires.0.0 (omega arith)

pub loop-parts-smaller : goal.loop-parts-smaller
loop-parts-smaller c = omega arith

pub loop-parts-preserved : goal.loop-parts-preserved
loop-parts-preserved c = carried_next _ c.loop-parts.invariant (omega arith) (to_z-of_z w64 _ (overflow_add-index c))

pub returns : goal.returns
returns c = carried_done (begun c.args.start c.args.factor c.args.ahead c.requires.0.0 c.requires.0.2) c.loop-parts.invariant (omega arith)
