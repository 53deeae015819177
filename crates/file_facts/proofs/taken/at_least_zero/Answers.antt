-- `file_facts::taken::at_least_zero` meets its contract, by the sign. Assumes nothing.
use mathlib.Core.Bool.{true, false}
use mathlib.Core.Path.{◌≡◌, refl, ap, ◌∙◌, subst}
use native.Mathlib.Omega.{arith}
use borrow.Author.Tests.{ltb-true}
use mir.Syntax.{w64}
use mir.Val.{to_z, of_z}
use mir.ValLaws.{to_z-of_z}
use lib.Dec.{T}
use lib.IntN.{ℤ, pos, negsuc, nat_abs}
use lib.Signed.{lt_z}
use Rattle.file_facts.specs.Told.{at_least_zero}
use Rattle.file_facts.proofs.taken.at_least_zero.Goals as goal

kept : (y : ℤ) → lt_z y (pos 0) ≡ false → nat_abs y ≡ at_least_zero y
unfolding at_least_zero
kept (pos n) e = refl
kept (negsuc n) e = absurd (subst T e tt)

none : (y : ℤ) → lt_z y (pos 0) ≡ true → 0 ≡ at_least_zero y
unfolding at_least_zero
none (pos n) e =
    let l = ltb-true n 0 e in
    omega arith
none (negsuc n) e = refl

abbrev back : ℤ → ℤ
back z = to_z w64 (of_z w64 z)

pub returns-then-n-lt0 : goal.returns-then-n-lt0
returns-then-n-lt0 c = none (back c.args.n) c.if-n-lt0.true ∙ ap at_least_zero (to_z-of_z w64 c.args.n c.ranges.n)

pub returns-else-n-lt0 : goal.returns-else-n-lt0
returns-else-n-lt0 c = kept (back c.args.n) c.if-n-lt0.false ∙ ap at_least_zero (to_z-of_z w64 c.args.n c.ranges.n)
