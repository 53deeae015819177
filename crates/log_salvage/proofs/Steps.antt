-- The walk of salvage, place by place. Assumes nothing.
use mathlib.Core.Bool.{Bool, true, false, not, cond, ◌&&◌, ◌||◌, true≢false}
use mathlib.Core.List.{List, [], ◌∷◌}
use mathlib.Core.Path.{◌≡◌, refl, sym, ap, ◌∙◌}
use Prim.Native.Nat.{ℕ, suc, max, ◌+◌, ◌-◌, ◌≤◌, ◌<◌}
use native.Mathlib.Numerals.{add-one}
use native.Mathlib.Omega.{arith}
use borrow.Author.Tests.{le-leb, lt-leb, lt-ltb, le-ltb, ltb-true, ltb-false, leb-true, leb-false, not-true, not-false}
use lib.Dec.{ltb, leb}
use lib.ListN.{length, get_or, drop, drop_of_length-le, length-drop}
use lib.Seq.{drop-cons}
use Rattle.std.specs.Prelude.{Some, None, is_some}
use Rattle.log_records.specs.Records.{two_at, agrees, length_at}
use Rattle.log_records.proofs.Places.{of_some, of_none}
use Rattle.log_salvage.specs.declared.Stretch.TheVariants.{Skipped, Kept}
use Rattle.log_salvage.specs.Salvage.{stops_at, skips, stretch_at}

-- ---- a place is judged

not_below : (a m : ℕ) → leb a m ≡ not (ltb m a)
not_below a m = go (ltb m a) refl
  where
    go : (t : Bool) → ltb m a ≡ t → leb a m ≡ not t
    go true e = lt-leb a m (ltb-true m a e)
    go false e = le-leb a m (ltb-false m a e)

pub passed_is : (part : List ℕ) (at : ℕ) (last none : Bool) → is_some (length_at part at) ≡ not none → (none && (last || leb 71 (length part - at))) ≡ not (stops_at last (drop at part))
unfolding length_at
passed_is part at last none e = go (agrees bs) last none e
  where
    bs : List ℕ
    bs = drop at part

    go : (y l n : Bool) → is_some (cond y (Some (7 + two_at bs 3)) None) ≡ not n → (n && (l || leb 71 (length part - at))) ≡ not (y || (not l && ltb (length bs) 71))
    go true l true e = absurd (true≢false e)
    go true l false e = refl
    go false true true e = refl
    go false false true e = ap (leb 71) (sym (length-drop at part)) ∙ not_below 71 (length bs)
    go false l false e = absurd (true≢false (sym e))

-- ---- one byte on
pub skips_stop : (last : Bool) (bs : List ℕ) → stops_at last bs ≡ true → skips last bs ≡ 0
unfolding skips
skips_stop last [] h = refl
skips_stop last (b ∷ bs) h = rw h

pub skips_pass : (last : Bool) (bs : List ℕ) (at : ℕ) → at < length bs → stops_at last (drop at bs) ≡ false → skips last (drop at bs) ≡ suc (skips last (drop (suc at) bs))
unfolding skips
skips_pass last bs at l h =
    let e = drop-cons bs at 0 l in
    let k : stops_at last (get_or bs at 0 ∷ drop (suc at) bs) ≡ false = sym (ap (stops_at last) e) ∙ h in
    ap (skips last) e ∙ rw k

pub skips_end : (last : Bool) (bs : List ℕ) (at : ℕ) → length bs ≤ at → skips last (drop at bs) ≡ 0
unfolding skips
skips_end last bs at h = ap (skips last) (drop_of_length-le bs h)

-- what is skipped from p on, added to p, is what is skipped from `at` on
pub record Walked (last : Bool) (part : List ℕ) (at p : ℕ) : Type 0 where
  pub same : p + skips last (drop p part) ≡ at + skips last (drop at part)

pub walked_none : (last : Bool) (part : List ℕ) (at : ℕ) → Walked last part at at
walked_none last part at = record { same = refl }

pub walked_next : (last : Bool) (part : List ℕ) (at p : ℕ) (r : Bool) → Walked last part at p → p < length part → r ≡ not (stops_at last (drop p part)) → r ≡ true → Walked last part at (p + 1)
walked_next last part at p r w l e h =
    let s = skips_pass last part p l (not-true (stops_at last (drop p part)) (sym e ∙ h)) in
    record { same = ap (λ (i : ℕ). i + skips last (drop i part)) (add-one p) ∙ omega (arith, s, w.same) }

pub walked_stop : (last : Bool) (part : List ℕ) (at p : ℕ) (r : Bool) → Walked last part at p → r ≡ not (stops_at last (drop p part)) → r ≡ false → p ≡ at + skips last (drop at part)
walked_stop last part at p r w e h = omega (arith, skips_stop last (drop p part) (not-false (stops_at last (drop p part)) (sym e ∙ h)), w.same)

pub walked_end : (last : Bool) (part : List ℕ) (at p : ℕ) → Walked last part at p → length part ≤ p → p ≡ at + skips last (drop at part)
walked_end last part at p w h = omega (arith, skips_end last part p h, w.same)

-- and where no place is left the walk is at the bytes' end, or where it began behind it
pub walked_all : (last : Bool) (part : List ℕ) (at p : ℕ) → Walked last part at p → (at ≤ length part → p ≤ length part) → length part ≤ p → max at (length part) ≡ at + skips last (drop at part)
walked_all last part at p w b h = go (leb at (length part)) refl
  where
    go : (t : Bool) → leb at (length part) ≡ t → max at (length part) ≡ at + skips last (drop at part)
    go true e = let k = b (leb-true at (length part) e) in omega (arith, walked_end last part at p w h)
    go false e = let k = leb-false at (length part) e in omega (arith, skips_end last part at (omega arith))

-- no more bytes are skipped than there are
pub skips_within : (last : Bool) (bs : List ℕ) → skips last bs ≤ length bs
unfolding skips
skips_within last [] = omega arith
skips_within last (b ∷ bs) = go (stops_at last (b ∷ bs)) (skips_within last bs)
  where
    go : (t : Bool) → skips last bs ≤ length bs → cond t 0 (suc (skips last bs)) ≤ suc (length bs)
    go true h = omega arith
    go false h = omega arith

-- none is skipped only where too few are left to judge
skips_none : (bs : List ℕ) → agrees bs ≡ false → skips false bs ≡ 0 → length bs < 71
unfolding skips
skips_none [] h e = omega arith
skips_none (b ∷ bs) h e = go (agrees (b ∷ bs)) (ltb (length (b ∷ bs)) 71) h refl e
  where
    go : (a t : Bool) → a ≡ false → ltb (length (b ∷ bs)) 71 ≡ t → cond (a || t) 0 (suc (skips false bs)) ≡ 0 → length (b ∷ bs) < 71
    go true t h k z = absurd (true≢false h)
    go false true h k z = ltb-true (length (b ∷ bs)) 71 k
    go false false h k z = omega arith

-- ---- the stretch
module _ (part : List ℕ) (at : ℕ) (last : Bool) where
  pub is_kept : (n : ℕ) → Some n ≡ length_at part at → Some (Kept at n) ≡ stretch_at part at last
  unfolding stretch_at
  is_kept n e =
      let s = of_some part at n e in
      rw (s.yes, s.length_is)

  pub is_skipped : None ≡ length_at part at → (p : ℕ) → p ≡ at + skips last (drop at part) → at < p → Some (Skipped at (p - at)) ≡ stretch_at part at last
  unfolding stretch_at
  is_skipped e p q l =
      let bs = drop at part in
      let k : p - at ≡ skips last bs = omega arith in
      ap (λ (i : ℕ). Some (Skipped at i)) k ∙ rw (of_none part at e, lt-ltb 0 (skips last bs) (omega arith))

  pub skipped_within : (p : ℕ) → p ≡ at + skips last (drop at part) → at < p → at + (p - at) ≤ length part
  skipped_within p q l = omega (arith, skips_within last (drop at part), length-drop at part)

  pub none_short : None ≡ length_at part at → (p : ℕ) → p ≡ at + skips last (drop at part) → p ≤ at → last ≡ false → length part - at < 71
  none_short e p q l f =
      let z : skips last (drop at part) ≡ 0 = omega arith in
      omega (arith, skips_none (drop at part) (of_none part at e) (sym (ap (λ (t : Bool). skips t (drop at part)) f) ∙ z), length-drop at part)

  pub is_end : None ≡ length_at part at → (p : ℕ) → p ≡ at + skips last (drop at part) → p ≤ at → None ≡ stretch_at part at last
  unfolding stretch_at
  is_end e p q l =
      let bs = drop at part in
      rw (of_none part at e, le-ltb 0 (skips last bs) (omega arith))
