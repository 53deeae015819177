-- What the place of a byte says, found or not. Assumes nothing.
use Rattle.std.proofs.Common.{◌≡◌, ℕ, ◌<◌, ◌≤◌, Bool, true, false, cond, ltb, List, length, ltb-true, ltb-false, sym, refl, ◌∙◌, arith}
use Rattle.std.specs.Prelude.{Option, Some, None}
use Rattle.scan.specs.Bytes.{index_of, place_of}

module _ (b : ℕ) (w : List ℕ) (r : Option ℕ) (e : r ≡ place_of b w) where
  pub place_some : (p : ℕ) → r ≡ Some p → (p ≡ index_of b w) × (p < length w)
  place_some p k = go (ltb (index_of b w) (length w)) refl (sym k ∙ e)
    where
      go : (t : Bool) → ltb (index_of b w) (length w) ≡ t → Some p ≡ cond t (Some (index_of b w)) None → (p ≡ index_of b w) × (p < length w)
      go true h q = let l = ltb-true (index_of b w) (length w) h in let s : p ≡ index_of b w = cc in (s, omega arith)
      go false h q = let z : ◌≡◌ {A = ℕ} 0 1 = cc in absurd (omega arith)

  pub place_none : r ≡ None → length w ≤ index_of b w
  place_none k = go (ltb (index_of b w) (length w)) refl (sym k ∙ e)
    where
      go : (t : Bool) → ltb (index_of b w) (length w) ≡ t → None ≡ cond t (Some (index_of b w)) None → length w ≤ index_of b w
      go true h q = let z : ◌≡◌ {A = ℕ} 0 1 = cc in absurd (omega arith)
      go false h q = ltb-false (index_of b w) (length w) h
