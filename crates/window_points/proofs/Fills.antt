-- An area that is filled from the front: what is written so far, and the rest as it was. For this crate and `sincs`. Assumes nothing.
use Rattle.std.proofs.Common.{◌≡◌, ℕ, zero, suc, ◌+◌, ◌<◌, ◌≤◌, Bool, true, false, not, T, ltb, List, [], ◌∷◌, ◌++◌, length, get_or, drop, set, sym, refl, ap, ◌∙◌, append_assoc, append-nil, add-one, arith, ltb→lt, nltb→le, length-append, length-drop, drop_of_length-le, drop-cons}
use lib.Ieee.{Float}
use lib.ListN.{get_or-append}
use lib.Seq.{set_at, get_or-append_seam}
use Rattle.window_points.specs.Filled.{listed}

pub listed_long : (f : ℕ → Float) (n : ℕ) → length (listed f n) ≡ n
unfolding listed
listed_long f zero = refl
listed_long f (suc n) = length-append (listed f n) (f n ∷ []) ∙ ap (λ (k : ℕ). k + 1) (listed_long f n) ∙ add-one n

-- the first i values stand in the area, and the rest is as it was
pub record Filling (f : ℕ → Float) (old now : List Float) (i : ℕ) : Type 0 where
  pub inside : i ≤ length old
  pub is : now ≡ listed f i ++ drop i old

module _ (f : ℕ → Float) (old : List Float) where
  pub filling_none : Filling f old old 0
  unfolding listed
  filling_none = record { inside = omega arith; is = refl }

  pub filling_next : (now : List Float) (i : ℕ) (y : Float) → Filling f old now i → i < length old → y ≡ f i → Filling f old (set now i y) (i + 1)
  unfolding listed
  filling_next now i y p h e = record {
    inside = omega arith;
    is =
        ap (λ (l : List Float). set l i y) (p.is ∙ ap (λ (l : List Float). listed f i ++ l) (drop-cons old i y h))
        ∙ set_at (listed f i) (get_or old i y) (drop (suc i) old) y i (listed_long f i)
        ∙ ap (λ (v : Float). listed f i ++ v ∷ drop (suc i) old) e
        ∙ sym (append_assoc (listed f i) (f i ∷ []) (drop (suc i) old))
        ∙ ap (λ (k : ℕ). listed f k ++ drop k old) (sym (add-one i));
  }

  -- as long as the area was
  pub filling_long : (now : List Float) (i : ℕ) → Filling f old now i → length now ≡ length old
  filling_long now i p = ap length p.is ∙ length-append (listed f i) (drop i old) ∙ rw (listed_long f i, length-drop) (omega (arith, p.inside))

  -- filled
  pub filling_done : (now : List Float) (i : ℕ) → Filling f old now i → length old ≤ i → now ≡ listed f (length old)
  filling_done now i p h =
      let e : i ≡ length old = omega (arith, p.inside) in
      p.is ∙ ap (λ (l : List Float). listed f i ++ l) (drop_of_length-le old h) ∙ append-nil (listed f i) ∙ ap (listed f) e

-- the value at a place
pub listed_at : (f : ℕ → Float) (n k : ℕ) (d : Float) → k < n → get_or (listed f n) k d ≡ f k
unfolding listed
listed_at f zero k d h = absurd (omega arith)
listed_at f (suc n) k d h = go (listed_at f n k d) (ltb k n) (ltb→lt k n) (nltb→le k n)
  where
    go : (k < n → get_or (listed f n) k d ≡ f k) → (b : Bool) → (T b → k < n) → (T (not b) → n ≤ k) → get_or (listed f n ++ (f n ∷ [])) k d ≡ f k
    go at true u v = get_or-append (listed f n) (f n ∷ []) d k (rw (listed_long f n) (u tt)) ∙ at (u tt)
    go at false u v =
        let e : n ≡ k = omega (arith, v tt) in
        ap (λ (j : ℕ). get_or (listed f n ++ (f n ∷ [])) j d) (sym (listed_long f n ∙ e)) ∙ get_or-append_seam (listed f n) (f n) [] d ∙ ap f e
