-- Room in a buffer: what the code's tests for it say. Assumes nothing.
use mathlib.Core.Bool.{Bool, true, false}
use mathlib.Core.Path.{◌≡◌, sym, ◌∙◌}
use Prim.Native.Nat.{ℕ, ◌<◌, ◌≤◌}
use borrow.Author.Tests.{leb-true, leb-false}
use lib.Dec.{leb}

-- a test's answer, t
module _ (t : Bool) (a b : ℕ) (e : t ≡ leb a b) where
  pub room_some : t ≡ true → a ≤ b
  room_some h = leb-true a b (sym e ∙ h)

  pub room_none : t ≡ false → b < a
  room_none h = leb-false a b (sym e ∙ h)
