-- A rule of a table, at each of its places by one test that is computed once over the whole table. Assumes nothing.
use mathlib.Core.Bool.{Bool, true, ◌&&◌}
use mathlib.Core.List.{List, [], ◌∷◌}
use Prim.Native.Nat.{ℕ, zero, suc, ◌<◌}
use native.Mathlib.Nat.{le_of_suc-le-suc, not-suc-le-zero}
use lib.Dec.{T}
use lib.Ieee.Fits.{and_l, and_r}
use lib.ListN.{length, drop}

-- the test f passes on what is left of the list at each of its places
unfoldable pub every : (List ℕ → Bool) → List ℕ → Bool
every f [] = true
every f (x ∷ xs) = f (x ∷ xs) && every f xs

pub at : (f : List ℕ → Bool) (xs : List ℕ) → T (every f xs) → (k : ℕ) → k < length xs → T (f (drop k xs))
unfolding every
at f [] t k h = absurd (not-suc-le-zero h)
at f (x ∷ xs) t zero h = and_l (f (x ∷ xs)) (every f xs) t
at f (x ∷ xs) t (suc k) h = at f xs (and_r (f (x ∷ xs)) (every f xs) t) k (le_of_suc-le-suc h)
