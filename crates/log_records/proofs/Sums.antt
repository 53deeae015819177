-- Bytes added up, one after the other. Assumes nothing.
use mathlib.Core.List.{List, [], ◌∷◌, ◌++◌}
use mathlib.Core.Path.{◌≡◌, refl, sym, ap, ◌∙◌}
use Prim.Native.Nat.{ℕ, ◌+◌, ◌*◌, ◌≤◌, ◌<◌}
use native.Mathlib.Numerals.{add-one}
use native.Mathlib.Omega.{arith}
use lib.ListN.{length, get_or, take, drop, length-drop}
use lib.Seq.{take-suc, get_or-drop}
use Rattle.log_records.specs.Records.{total}

pub total_append : (xs ys : List ℕ) → total (xs ++ ys) ≡ total xs + total ys
unfolding total
total_append [] ys = omega arith
total_append (x ∷ xs) ys = omega (arith, total_append xs ys)

-- s is the sum of the first k bytes from a place on
pub record Added (bs : List ℕ) (from s k : ℕ) : Type 0 where
  pub is : s ≡ total (take k (drop from bs))
  pub most : s ≤ 255 * k

pub added_none : (bs : List ℕ) (from : ℕ) → Added bs from 0 0
unfolding total
added_none bs from = record { is = refl; most = omega arith }

pub added_next : (bs : List ℕ) (from s k b : ℕ) → Added bs from s k → from + k < length bs → b ≡ get_or bs (from + k) 0 → b < 256 → Added bs from (s + b) (k + 1)
unfolding total
added_next bs from s k b a h e l =
    let here : get_or (drop from bs) k 0 ≡ b = get_or-drop from bs k 0 ∙ sym e in
    let next : take (k + 1) (drop from bs) ≡ take k (drop from bs) ++ (get_or (drop from bs) k 0 ∷ []) = ap (λ (i : ℕ). take i (drop from bs)) (add-one k) ∙ take-suc (drop from bs) k 0 (omega (arith, length-drop from bs)) in
    let sum : total (take (k + 1) (drop from bs)) ≡ total (take k (drop from bs)) + total (get_or (drop from bs) k 0 ∷ []) = ap total next ∙ total_append (take k (drop from bs)) (get_or (drop from bs) k 0 ∷ []) in
    record { is = omega (arith, sum, here, a.is); most = omega (arith, a.most) }

pub added_done : (bs : List ℕ) (from s k n : ℕ) → Added bs from s k → k ≡ n → (s ≡ total (take n (drop from bs))) × (s ≤ 255 * n)
added_done bs from s k n a e = (a.is ∙ ap (λ (i : ℕ). total (take i (drop from bs))) e, omega (arith, a.most))
