-- Names by the tests that the code makes. Assumes nothing.
use mathlib.Core.Bool.{Bool, false, true≢false}
use mathlib.Core.List.{List}
use mathlib.Core.Path.{◌≡◌, sym, ◌∙◌}
use Prim.Native.Nat.{ℕ}
use Rattle.windows.specs.declared.WindowFunction.{WindowFunction}
use Rattle.windows.specs.declared.WindowFunction.TheVariants.{Blackman, Blackman2, BlackmanHarris, BlackmanHarris2, Hann, Hann2}
use Rattle.table.specs.Names.{IsName, Tells}

-- a test that failed
pub name_none : (r : Bool) (fact : Type 0) → Tells r fact → r ≡ false → fact → ⊥
name_none r fact t e p = true≢false (sym (t.1 p) ∙ e)

-- a word that is none of the names, in the order of the code's tests
pub names_none : (word : List ℕ) → (IsName word Hann → ⊥) → (IsName word Hann2 → ⊥) → (IsName word Blackman → ⊥) → (IsName word Blackman2 → ⊥) → (IsName word BlackmanHarris → ⊥) → (IsName word BlackmanHarris2 → ⊥) → (w : WindowFunction) → IsName word w → ⊥
names_none word h h2 b b2 bh bh2 Hann = h
names_none word h h2 b b2 bh bh2 Hann2 = h2
names_none word h h2 b b2 bh bh2 Blackman = b
names_none word h h2 b b2 bh bh2 Blackman2 = b2
names_none word h h2 b b2 bh bh2 BlackmanHarris = bh
names_none word h h2 b b2 bh bh2 BlackmanHarris2 = bh2
