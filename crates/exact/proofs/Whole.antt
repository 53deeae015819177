-- A law of the pairs: a line is nowhere further out than at its ends. Assumes nothing.
use mathlib.Core.Bool.{Bool, true, false, not}
use mathlib.Core.Path.{◌≡◌}
use Prim.Native.Nat.{ℕ, ◌+◌, ◌*◌, ◌≤◌, ◌<◌}
use native.Mathlib.Nat.{le_dest, le_of_lt, mul-le-mul_left}
use native.Mathlib.Omega.{arith}
use lib.Dec.{T, leb, leb→le, nleb→lt}
use Rattle.exact.specs.Whole.{Whole, ◌⊕◌, ◌⊙◌, Room}

-- ---- a line that starts at x and moves by t with each step is, up to its n-th step, nowhere further out than at its ends
cross : (j n a b : ℕ) → j ≤ n → a ≤ b → j * b + n * a ≤ j * a + n * b
cross j n a b h k = go (le_dest h) (le_dest k)
  where
    go : (i : ℕ) × (j + i ≡ n) → (c : ℕ) × (a + c ≡ b) → j * b + n * a ≤ j * a + n * b
    go (i, p) (c, q) = rw (← p, ← q) (omega arith)

pub room_between : (b e j n : ℕ) (x t : Whole) → j ≤ n → Room b e x → Room b e (x ⊕ n ⊙ t) → Room b e (x ⊕ j ⊙ t)
room_between b e j n x t l h k = go (leb t.0 t.1) (leb→le t.0 t.1) (nleb→lt t.0 t.1)
  where
    go : (o : Bool) → (T o → t.0 ≤ t.1) → (T (not o) → t.1 < t.0) → Room b e (x ⊕ j ⊙ t)
    go true u v = omega (arith, cross j n t.0 t.1 l (u tt), mul-le-mul_left j (u tt))
    go false u v = omega (arith, cross j n t.1 t.0 l (le_of_lt (v tt)), mul-le-mul_left j (le_of_lt (v tt)))
