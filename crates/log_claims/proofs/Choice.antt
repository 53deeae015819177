-- Which records salvage keeps. Assumes nothing.
use mathlib.Core.Bool.{Bool, true, false, true≢false}
use mathlib.Core.List.{List, [], ◌∷◌, ◌++◌, append_assoc}
use mathlib.Core.Logic.{◌⊎◌, inl, inr, ◌↔◌}
use mathlib.Core.Path.{◌≡◌, refl, sym, ap, ◌∙◌, subst}
use Prim.Native.Nat.{ℕ, ◌+◌, ◌-◌, ◌≤◌, ◌<◌}
use native.Mathlib.Omega.{arith}
use borrow.Author.Tests.{ltb-true, ltb-false}
use lib.Dec.{ltb}
use lib.ListN.{length, drop, length-append, length-drop}
use lib.Seq.{drop-drop, drop-append_seam}
use Rattle.log_records.specs.Records.{two_at, agrees, record_length}
use Rattle.log_records.proofs.Places.{stands}
use Rattle.log_claims.proofs.Local.{more_agrees}
use Rattle.log_salvage.specs.declared.Stretch.{Stretch}
use Rattle.log_salvage.specs.declared.Stretch.TheVariants.{Skipped, Kept}
use Rattle.log_claims.specs.Listing.{listing}
use Rattle.log_claims.specs.Claims.{Listed, Cover, IsKept, IsSkipped, Walk, Good, AllGood, joined, kept_all}
use Rattle.log_claims.proofs.Walks.{listing_walks, kept_length}

-- ---- two stretches that are the same
abbrev start_of : Stretch → ℕ
start_of (Skipped at n) = at
start_of (Kept at n) = at

abbrev kept? : Stretch → Bool
kept? (Skipped at n) = false
kept? (Kept at n) = true

-- ---- there is one walk
one_length : (log : List ℕ) (at n m : ℕ) → IsSkipped log at n → IsSkipped log at m → m ≤ n
one_length log at n m a b = go (ltb n m) refl
  where
    go : (t : Bool) → ltb n m ≡ t → m ≤ n
    go true e =
        let l = ltb-true n m e in
        absurd (true≢false (sym (a.stops (omega (arith, b.whole))) ∙ b.none n l))
    go false e = ltb-false n m e

kept_skipped : (log : List ℕ) (at n m : ℕ) → IsKept log at n → IsSkipped log at m → ⊥
kept_skipped log at n m a b =
    let here : at ≡ at + 0 = omega arith in
    true≢false (sym a.stands ∙ ap (λ (i : ℕ). agrees (drop i log)) here ∙ b.none 0 b.some)

pub walk_one : (log : List ℕ) (at : ℕ) (l m : List Stretch) → Walk log at l → Walk log at m → l ≡ m
unfolding Walk
walk_one log at [] [] a b = refl
walk_one log at [] (Kept p n ∷ m) a b = absurd (omega (arith, b.1.0.whole, b.1.0.some))
walk_one log at [] (Skipped p n ∷ m) a b = absurd (omega (arith, b.1.0.whole, b.1.0.some))
walk_one log at (Kept p n ∷ l) [] a b = absurd (omega (arith, a.1.0.whole, a.1.0.some))
walk_one log at (Kept p n ∷ l) (Kept q k ∷ m) a b =
    let same : n ≡ k = a.1.0.long ∙ sym b.1.0.long in
    let place : p ≡ q = a.0 ∙ sym b.0 in
    ap (λ (i : ℕ). Kept i n ∷ l) place ∙ ap (λ (i : ℕ). Kept q i ∷ l) same ∙ ap (λ (t : List Stretch). Kept q k ∷ t) (walk_one log (at + n) l m a.1.1 (subst (λ (i : ℕ). Walk log (at + i) m) (sym same) b.1.1))
walk_one log at (Kept p n ∷ l) (Skipped q k ∷ m) a b = absurd (kept_skipped log at n k a.1.0 b.1.0)
walk_one log at (Skipped p n ∷ l) [] a b = absurd (omega (arith, a.1.0.whole, a.1.0.some))
walk_one log at (Skipped p n ∷ l) (Kept q k ∷ m) a b = absurd (kept_skipped log at k n b.1.0 a.1.0)
walk_one log at (Skipped p n ∷ l) (Skipped q k ∷ m) a b =
    let same : n ≡ k = omega (arith, one_length log at n k a.1.0 b.1.0, one_length log at k n b.1.0 a.1.0) in
    let place : p ≡ q = a.0 ∙ sym b.0 in
    ap (λ (i : ℕ). Skipped i n ∷ l) place ∙ ap (λ (i : ℕ). Skipped q i ∷ l) same ∙ ap (λ (t : List Stretch). Skipped q k ∷ t) (walk_one log (at + n) l m a.1.1 (subst (λ (i : ℕ). Walk log (at + i) m) (sym same) b.1.1))

-- ---- what a walk lists as kept is a record
abbrev long_of : Stretch → ℕ
long_of (Skipped at n) = n
long_of (Kept at n) = n

pub listed_is : (log : List ℕ) (at : ℕ) (l : List Stretch) (p n : ℕ) → Walk log at l → Listed (Kept p n) l → IsKept log p n
unfolding Walk Listed
listed_is log at [] p n w h = absurd h
listed_is log at (Kept q k ∷ l) p n w (inl e) =
    let here : at ≡ p = sym (ap start_of e ∙ w.0) in
    let same : k ≡ n = sym (ap long_of e) in
    subst (λ (i : ℕ). IsKept log i n) here (subst (λ (i : ℕ). IsKept log at i) same w.1.0)
listed_is log at (Kept q k ∷ l) p n w (inr h) = listed_is log (at + k) l p n w.1.1 h
listed_is log at (Skipped q k ∷ l) p n w (inl e) = absurd (true≢false (ap kept? e))
listed_is log at (Skipped q k ∷ l) p n w (inr h) = listed_is log (at + k) l p n w.1.1 h

-- ---- no two kept records share a byte
later : (log : List ℕ) (at : ℕ) (l : List Stretch) (p n : ℕ) → Walk log at l → Listed (Kept p n) l → at ≤ p
unfolding Walk Listed
later log at [] p n w h = absurd h
later log at (Kept q k ∷ l) p n w (inl e) = let s : p ≡ q = ap start_of e in omega (arith, w.0)
later log at (Kept q k ∷ l) p n w (inr h) = let b = later log (at + k) l p n w.1.1 h in omega arith
later log at (Skipped q k ∷ l) p n w (inl e) = absurd (true≢false (ap kept? e))
later log at (Skipped q k ∷ l) p n w (inr h) = let b = later log (at + k) l p n w.1.1 h in omega arith

pub apart : (log : List ℕ) (at : ℕ) (l : List Stretch) (p n q m : ℕ) → Walk log at l → Listed (Kept p n) l → Listed (Kept q m) l → q < p → p < q + m → ⊥
unfolding Walk Listed
apart log at [] p n q m w h k a b = h
apart log at (Skipped r i ∷ l) p n q m w (inl e) k a b = true≢false (ap kept? e)
apart log at (Skipped r i ∷ l) p n q m w (inr h) (inl e) a b = true≢false (ap kept? e)
apart log at (Skipped r i ∷ l) p n q m w (inr h) (inr k) a b = apart log (at + i) l p n q m w.1.1 h k a b
apart log at (Kept r i ∷ l) p n q m w (inl e) (inl f) a b = absurd (let s : p ≡ r = ap start_of e in let t : q ≡ r = ap start_of f in omega arith)
apart log at (Kept r i ∷ l) p n q m w (inl e) (inr k) a b = absurd (let s : p ≡ r = ap start_of e in let t = later log (at + i) l q m w.1.1 k in omega (arith, w.0))
apart log at (Kept r i ∷ l) p n q m w (inr h) (inl f) a b =
    absurd (let t : q ≡ r = ap start_of f in let u : q + m ≡ r + i = ap sum_of_two f in let s = later log (at + i) l p n w.1.1 h in omega (arith, w.0))
  where
    sum_of_two : Stretch → ℕ
    sum_of_two (Skipped x y) = 0
    sum_of_two (Kept x y) = x + y
apart log at (Kept r i ∷ l) p n q m w (inr h) (inr k) a b = apart log (at + i) l p n q m w.1.1 h k a b

-- ---- a record that no kept one covers is kept
module _ (log : List ℕ) (p : ℕ) (y : agrees (drop p log) ≡ true) where
  inside : p < length log
  inside = omega (arith, (stands (drop p log) y).whole, length-drop p log)

  abbrev wanted : Stretch
  wanted = Kept p (record_length (drop p log))

  kept_here : (at q n : ℕ) → at ≡ p → q ≡ at → n ≡ record_length (drop at log) → wanted ≡ Kept q n
  kept_here at q n e f g = ap (λ (i : ℕ). Kept i (record_length (drop p log))) (sym (f ∙ e)) ∙ ap (Kept q) (sym (g ∙ ap (λ (i : ℕ). record_length (drop i log)) e))

  -- what holds of the rest of a listing holds of it whole
  behind : (s : Stretch) (l : List Stretch) → Listed wanted l ⊎ Cover l p → Listed wanted (s ∷ l) ⊎ Cover (s ∷ l) p
  unfolding Listed
  behind s l (inl h) = inl (inr h)
  behind s l (inr c) = inr (record { start = c.start; long = c.long; kept = inr c.kept; before = c.before; over = c.over })

  first_kept : (s : Stretch) (l : List Stretch) → wanted ≡ s → Listed wanted (s ∷ l)
  unfolding Listed
  first_kept s l e = inl e

  first_covers : (q n : ℕ) (l : List Stretch) → q < p → p < q + n → Cover (Kept q n ∷ l) p
  unfolding Listed
  first_covers q n l a b = record { start = q; long = n; kept = inl refl; before = a; over = b }

  -- a kept record at the walk's place is this one, or covers its start, or ends before it
  past_kept : (at q n : ℕ) (l : List Stretch) → at ≤ p → q ≡ at → IsKept log at n → (at + n ≤ p → Listed wanted l ⊎ Cover l p) → Listed wanted (Kept q n ∷ l) ⊎ Cover (Kept q n ∷ l) p
  past_kept at q n l h e k rest = go (ltb at p) refl
    where
      over : (t : Bool) → ltb p (at + n) ≡ t → at < p → Listed wanted (Kept q n ∷ l) ⊎ Cover (Kept q n ∷ l) p
      over true f a = inr (first_covers q n l (omega arith) (omega (arith, ltb-true p (at + n) f)))
      over false f a = behind (Kept q n) l (rest (ltb-false p (at + n) f))

      go : (t : Bool) → ltb at p ≡ t → Listed wanted (Kept q n ∷ l) ⊎ Cover (Kept q n ∷ l) p
      go true f = over (ltb p (at + n)) refl (ltb-true at p f)
      go false f = inl (first_kept (Kept q n) l (kept_here at q n (omega (arith, ltb-false at p f)) e k.long))

  -- and a stretch skipped ends before it
  past_skipped : (at n : ℕ) → at ≤ p → IsSkipped log at n → at + n ≤ p
  past_skipped at n h k = go (ltb p (at + n)) refl
    where
      go : (t : Bool) → ltb p (at + n) ≡ t → at + n ≤ p
      go true f =
          let here : at + (p - at) ≡ p = omega arith in
          absurd (true≢false (sym y ∙ sym (ap (λ (i : ℕ). agrees (drop i log)) here) ∙ k.none (p - at) (omega (arith, ltb-true p (at + n) f))))
      go false f = ltb-false p (at + n) f

  kept_or_covered : (at : ℕ) (l : List Stretch) → Walk log at l → at ≤ p → Listed wanted l ⊎ Cover l p
  unfolding Walk
  kept_or_covered at [] w h = absurd (omega (arith, inside))
  kept_or_covered at (Kept q n ∷ l) w h = past_kept at q n l h w.0 w.1.0 (λ k. kept_or_covered (at + n) l w.1.1 k)
  kept_or_covered at (Skipped q n ∷ l) w h = behind (Skipped q n) l (kept_or_covered (at + n) l w.1.1 (past_skipped at n h w.1.0))

  -- a record is kept, or a kept one covers its start
  pub kept_or : Listed wanted (listing log) ⊎ Cover (listing log) p
  kept_or = kept_or_covered 0 (listing log) (listing_walks log) (omega arith)

  free_kept : ((q m : ℕ) → Listed (Kept q m) (listing log) → q < p → p < q + m → ⊥) → Listed wanted (listing log)
  free_kept free = go kept_or
    where
      go : Listed wanted (listing log) ⊎ Cover (listing log) p → Listed wanted (listing log)
      go (inl h) = h
      go (inr c) = absurd (free c.start c.long c.kept c.before c.over)

  -- what salvage promises of a damaged log: "a good record is kept exactly when no kept record begins before it and ends after its start"
  pub kept_exactly : Listed wanted (listing log) ↔ ((q m : ℕ) → Listed (Kept q m) (listing log) → q < p → p < q + m → ⊥)
  kept_exactly =
      (λ h q m k a b. apart log 0 (listing log) p (record_length (drop p log)) q m (listing_walks log) h k a b, λ free. free_kept free)

-- where a false record can come from: one that begins within a good record is kept only where that good one is not
pub false_within : (log : List ℕ) (p q m : ℕ) → Listed (Kept q m) (listing log) → p < q → q < p + record_length (drop p log) → Listed (Kept p (record_length (drop p log))) (listing log) → ⊥
false_within log p q m h a b k = apart log 0 (listing log) q m p (record_length (drop p log)) (listing_walks log) h k a b

-- ---- good records alone
good_length : (r : List ℕ) → Good r → length r ≡ 7 + two_at r 3
good_length r g = g.long ∙ kept_length r g.agrees_it

-- behind a part that stands at the front of what is left
pub past_part : (log : List ℕ) (at : ℕ) (r rest : List ℕ) → drop at log ≡ r ++ rest → drop (at + length r) log ≡ rest
past_part log at r rest e = sym (drop-drop (length r) at log) ∙ ap (drop (length r)) e ∙ drop-append_seam r rest

pub is_kept_good : (log : List ℕ) (at : ℕ) (r rest : List ℕ) → Good r → drop at log ≡ r ++ rest → at ≤ length log → IsKept log at (length r)
is_kept_good log at r rest g e h =
    let m = more_agrees r rest g.agrees_it in
    let y : agrees (drop at log) ≡ true = ap agrees e ∙ m.0 in
    let long : length r ≡ record_length (drop at log) = good_length r g ∙ ap (λ (i : ℕ). 7 + i) (sym (ap (λ (q : List ℕ). two_at q 3) e ∙ m.1)) ∙ sym (kept_length (drop at log) y) in
    record { stands = y; long = long; some = omega (arith, good_length r g); whole = omega (arith, ap length e, length-append r rest, length-drop at log) }

-- records that stand one after the other from the walk's place on are all kept
pub all_kept : (log : List ℕ) (at : ℕ) (rs : List (List ℕ)) (rest : List ℕ) (l : List Stretch) → AllGood rs → drop at log ≡ joined rs ++ rest → at ≤ length log
    → Walk log (at + length (joined rs)) l → Walk log at (kept_all at rs ++ l)
unfolding AllGood joined kept_all Walk
all_kept log at [] rest l g e h w = subst (λ (i : ℕ). Walk log i l) (omega arith) w
all_kept log at (r ∷ rs) rest l g e h w =
    let k = is_kept_good log at r (joined rs ++ rest) g.0 (e ∙ append_assoc r (joined rs) rest) h in
    let on = past_part log at r (joined rs ++ rest) (e ∙ append_assoc r (joined rs) rest) in
    let far : at + length (r ++ joined rs) ≡ at + length r + length (joined rs) = omega (arith, length-append r (joined rs)) in
    (refl, (k, all_kept log (at + length r) rs rest l g.1 on k.whole (subst (λ (i : ℕ). Walk log i l) far w)))
