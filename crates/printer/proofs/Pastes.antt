-- A text put in parts: the loops that put it, and a part behind a part. Assumes nothing.
use mathlib.Core.List.{List, [], ◌∷◌, ◌++◌, append_assoc}
use mathlib.Core.Path.{◌≡◌, refl, sym, ap, ◌∙◌}
use Prim.Native.Nat.{ℕ, suc, ◌+◌, ◌<◌, ◌≤◌}
use native.Mathlib.Nat.{add_assoc}
use native.Mathlib.Numerals.{add-one}
use native.Mathlib.Omega.{arith}
use lib.ListN.{length, set, take, drop}
use lib.Seq.{paste, paste-zero, length-paste, take-paste, drop-paste, drop-drop, set_split, append_snoc}

-- x is d with the first n bytes of s from the place at on
pub record Pasted (d : List ℕ) (at : ℕ) (s x : List ℕ) (n : ℕ) : Type 0 where
  pub long : length x ≡ length d
  pub is : x ≡ paste d at s n

pub pasted_none : (d : List ℕ) (at : ℕ) (s : List ℕ) → Pasted d at s d 0
pasted_none d at s = record { long = refl; is = paste-zero d at s }

-- a text of one byte is one store
pub pasted_one : (d : List ℕ) (at v : ℕ) → at < length d → set d at v ≡ paste d at (v ∷ []) 1
pasted_one d at v h = set_split d at v h ∙ sym (append_snoc (take at d) v (drop (suc at) d)) ∙ ap (λ (i : ℕ). take at d ++ (v ∷ []) ++ drop i d) (sym (add-one at))

-- the m bytes of t more
pub pasted_part : (d : List ℕ) (at : ℕ) (s x t y : List ℕ) (n m : ℕ) → Pasted d at s x n → at + length s ≤ length d → n + m ≤ length s → m ≤ length t
    → take n s ++ take m t ≡ take (n + m) s → y ≡ paste x (at + n) t m → Pasted d at s y (n + m)
pasted_part d at s x t y n m p h l k e f = record {
  long = ap length f ∙ length-paste x (at + n) t m (omega (arith, p.long)) k ∙ p.long;
  is =
      f ∙ ap (λ (q : List ℕ). paste q (at + n) t m) p.is
      ∙ ap (λ (q : List ℕ). q ++ take m t ++ drop (at + n + m) (paste d at s n)) (take-paste d at s n (omega arith) (omega arith))
      ∙ ap (λ (q : List ℕ). q ++ drop (at + n + m) (paste d at s n)) (append_assoc (take at d) (take n s) (take m t) ∙ ap (λ (q : List ℕ). take at d ++ q) e)
      ∙ ap (λ (q : List ℕ). take at d ++ take (n + m) s ++ q) behind;
}
  where
    behind : drop (at + n + m) (paste d at s n) ≡ drop (at + (n + m)) d
    behind =
        sym (drop-drop m (at + n) (paste d at s n)) ∙ ap (drop m) (drop-paste d at s n (omega arith) (omega arith))
        ∙ drop-drop m (at + n) d ∙ ap (λ (i : ℕ). drop i d) (add_assoc at n m)
