-- The ladder of refusals, rung by rung, what `if !f(x)` tells of the test that f's answer equals, and tests joined by `&`. Assumes nothing.
use mathlib.Core.Bool.{Bool, true, false, not, ◌&&◌, and-eq-true_iff}
use mathlib.Core.List.{List}
use mathlib.Core.Path.{◌≡◌, refl, sym, ◌∙◌}
use Prim.Native.Nat.{ℕ}
use native.Mathlib.Omega.{arith}
use borrow.Author.Tests.{not-true, not-false}
use lib.Ieee.{Float}
use Rattle.error.specs.Refusals.{Said, given, refused, unless}

-- the test passes: the next rung decides
pub pass : {A : Type 0} (b : Bool) (n : ℕ) (vs : List Float) (next x : Said A) → b ≡ true → x ≡ next → x ≡ unless b n vs next
unfolding unless
pass b n vs next x h k = rw h k

-- the test fails: the refusal
pub stop : {A : Type 0} (b : Bool) (n : ℕ) (vs : List Float) (next : Said A) → b ≡ false → refused n vs ≡ unless b n vs next
unfolding unless
stop b n vs next h = rw h

pub failed : {r b : Bool} → r ≡ b → not r ≡ true → b ≡ false
failed {r} e t = sym e ∙ not-true r t

pub passed : {r b : Bool} → r ≡ b → not r ≡ false → b ≡ true
passed {r} e t = sym e ∙ not-false r t

-- two tests joined: both hold, and the one way and the other are the toolchain's law
pub both : (a b : Bool) → (a && b) ≡ true → (a ≡ true) × (b ≡ true)
both a b = (and-eq-true_iff a b).0

pub join : {a b : Bool} → a ≡ true → b ≡ true → (a && b) ≡ true
join {a} {b} h k = (and-eq-true_iff a b).1 (h, k)

-- a ladder that gives passed its test, and went on
pub accepted : {A : Type 0} (b : Bool) (n : ℕ) (vs : List Float) (next : Said A) (a : A) → unless b n vs next ≡ given a → (b ≡ true) × (next ≡ given a)
unfolding unless
accepted true n vs next a e = (refl, e)
accepted false n vs next a e = absurd (let z : ◌≡◌ {A = ℕ} 0 1 = cc in omega arith)

pub same_given : {A : Type 0} (a b : A) → given a ≡ given b → a ≡ b
same_given a b e = cc
