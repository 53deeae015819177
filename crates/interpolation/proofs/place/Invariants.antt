-- `interpolation::place` meets its contract. The invariant: each turn has moved one whole time from the parts to the index. Assumes nothing.
use Rattle.interpolation.proofs.Carries.{Carried}
use Rattle.interpolation.proofs.place.Given as goal

abbrev pub invariant-loop-parts : goal.invariant-loop-parts
invariant-loop-parts l = Carried l.factor l.initial.index l.initial.parts l.index l.parts

abbrev pub decreases-loop-parts : goal.decreases-loop-parts
decreases-loop-parts l = l.parts
