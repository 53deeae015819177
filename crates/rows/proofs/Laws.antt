-- Laws of the rows, shared by the two tables. Assumes nothing.
use mathlib.Core.Bool.{Bool, true, false, cond}
use mathlib.Core.List.{List, [], ◌∷◌, foldl}
use mathlib.Core.Logic.{◌⊎◌, inl, inr}
use mathlib.Core.Path.{◌≡◌, refl}
use Prim.Native.Nat.{ℕ, ◌+◌, ◌<◌, ◌≤◌}
use native.Mathlib.Numerals.{add-one}
use native.Mathlib.Omega.{arith}
use lib.IntN.{ℤ}
use lib.Ieee.{Float}
use lib.ListN.{length, get_or, drop, drop_of_length-le}
use lib.Seq.{drop-cons}
use Rattle.std.proofs.Common.{Option, Some, None}
use Rattle.std.specs.Option.{unwrap_or}
use Rattle.exact.specs.Doubles.{◌+f◌, ◌*f◌, zero_f}
use Rattle.rows.specs.Rows.{is_zero, term, terms, left_to_right, row_sum, horner, kernel}
use Rattle.rows.specs.Turns.{step_part, row_next, top}

-- ---- a row's sum, entry by entry

-- the sum so far, and the turns that are left
unfoldable pub sum_from : Option Float → List ℤ → List Float → Float
sum_from p [] ys = unwrap_or p zero_f
sum_from p (c ∷ cs) [] = unwrap_or p zero_f
sum_from p (c ∷ cs) (y ∷ ys) = sum_from (step_part p c y) cs ys

-- after the first term each is added to the sum so far
sum_more : (s : Float) (cs : List ℤ) (ys : List Float) → sum_from (Some s) cs ys ≡ foldl (λ a b. a +f b) s (terms cs ys)
unfolding sum_from terms
sum_more s [] ys = refl
sum_more s (c ∷ cs) [] = refl
sum_more s (c ∷ cs) (y ∷ ys) = by (is_zero c) (λ u. sum_more u cs ys)
  where
    by : (b : Bool) → ((u : Float) → sum_from (Some u) cs ys ≡ foldl (λ a b. a +f b) u (terms cs ys))
        → sum_from (cond b (Some s) (Some (s +f term c y))) cs ys ≡ foldl (λ a b. a +f b) s (cond b (terms cs ys) (term c y ∷ terms cs ys))
    by true h = h s
    by false h = h (s +f term c y)

-- the turns from the beginning make the row's sum
pub sum_turns : (cs : List ℤ) (ys : List Float) → sum_from None cs ys ≡ row_sum cs ys
unfolding sum_from row_sum terms left_to_right
sum_turns [] ys = refl
sum_turns (c ∷ cs) [] = refl
sum_turns (c ∷ cs) (y ∷ ys) = by (is_zero c) (sum_turns cs ys)
  where
    by : (b : Bool) → sum_from None cs ys ≡ left_to_right (terms cs ys)
        → sum_from (cond b None (Some (term c y))) cs ys ≡ left_to_right (cond b (terms cs ys) (term c y ∷ terms cs ys))
    by true h = h
    by false h = sum_more (term c y) cs ys

-- one entry more: what is left of the run gives what the whole run gives
pub sum_next : {r : Float} (p q : Option Float) (cs more : List ℤ) (ys rest : List Float) (c : ℤ) (y : Float) → cs ≡ c ∷ more → ys ≡ y ∷ rest
    → q ≡ step_part p c y → sum_from p cs ys ≡ r → sum_from q more rest ≡ r
unfolding sum_from
sum_next p q cs more ys rest c y h k s i = rw s (rw (h, k) at i)

-- one of the two passed
pub sum_done : {r : Float} (p : Option Float) (cs : List ℤ) (ys : List Float) → (length cs ≡ 0) ⊎ (length ys ≡ 0) → sum_from p cs ys ≡ r → unwrap_or p zero_f ≡ r
unfolding sum_from
sum_done p [] ys h i = i
sum_done p (c ∷ cs) [] h i = i
sum_done p (c ∷ cs) (y ∷ ys) (inl h) i = absurd (omega arith)
sum_done p (c ∷ cs) (y ∷ ys) (inr h) i = absurd (omega arith)

-- ---- Horner, row by row

module _ (x : Float) (ys : List Float) where
  -- what the rows so far gave, and the rows that are left
  unfoldable pub horner_from : Option Float → List (List ℤ) → Float
  horner_from None rs = top x ys rs
  horner_from (Some a) rs = horner x ys a rs

  pub horner_none : (rs : List (List ℤ)) → horner_from None rs ≡ top x ys rs
  unfolding horner_from
  horner_none rs = refl

  -- one row more
  pub horner_next : {v : Float} (acc : Option Float) (rs : List (List ℤ)) (j : ℕ) (d : List ℤ) (s : Float) → j < length rs → s ≡ row_sum (get_or rs j d) ys → horner_from acc (drop j rs) ≡ v
      → horner_from (Some (row_next x acc s)) (drop (j + 1) rs) ≡ v
  unfolding horner_from top horner
  horner_next None rs j d s h k i = rw (add-one, k) (rw (drop-cons rs j d h) at i)
  horner_next (Some a) rs j d s h k i = rw (add-one, k) (rw (drop-cons rs j d h) at i)

  -- every row passed
  pub horner_done : {v : Float} (acc : Option Float) (rs : List (List ℤ)) (j : ℕ) → length rs ≤ j → horner_from acc (drop j rs) ≡ v → unwrap_or acc zero_f ≡ v
  unfolding horner_from top horner
  horner_done None rs j h i = rw (drop_of_length-le rs h) at i
  horner_done (Some a) rs j h i = rw (drop_of_length-le rs h) at i

  -- a table's kernel
  pub top_kernel : (scale v : Float) (r : List ℤ) (rs : List (List ℤ)) → v ≡ top x ys (r ∷ rs) → scale *f v ≡ kernel (r ∷ rs) scale x ys
  unfolding top kernel
  top_kernel scale v r rs h = rw h
