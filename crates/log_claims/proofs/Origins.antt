-- Where a false record comes from. Assumes nothing.
use mathlib.Core.Bool.{Bool, true, false, ◌||◌, true≢false}
use mathlib.Core.List.{List, [], ◌∷◌}
use mathlib.Core.Logic.{◌⊎◌, inl, inr}
use mathlib.Core.Path.{◌≡◌, refl, sym, ap, ◌∙◌, subst}
use Prim.Native.Nat.{ℕ, zero, suc, ◌+◌, ◌≤◌, ◌<◌}
use native.Mathlib.Omega.{arith}
use borrow.Author.Tests.{ltb-true, ltb-false, eqb-true}
use lib.Dec.{eqb, ltb}
use lib.ListN.{length, drop, length-append, length-drop}
use Rattle.log_records.specs.Records.{agrees, record_length}
use Rattle.log_salvage.specs.declared.Stretch.TheVariants.{Kept}
use Rattle.log_claims.specs.Listing.{listing}
use Rattle.log_claims.specs.Claims.{Listed, Cover, IsKept}
use Rattle.log_claims.specs.Pieces.{Piece, intact, other, bytes_of, Pieces, intact_at, IsFalse, InOther, InCovered, GoesBack}
use Rattle.log_claims.proofs.Walks.{listing_walks}
use Rattle.log_claims.proofs.Choice.{listed_is, kept_or, false_within, past_part, is_kept_good}

-- ---- records of a log that share no byte
module _ (log : List ℕ) (is : ℕ → Bool) (stand : (p : ℕ) → is p ≡ true → agrees (drop p log) ≡ true) (parted : (p q : ℕ) → is p ≡ true → is q ≡ true → p < q → p + record_length (drop p log) ≤ q) where
  abbrev end_at : ℕ → ℕ
  end_at p = p + record_length (drop p log)

  -- the intact record in which the byte q stands, if there is one
  record Holder (q : ℕ) : Type 0 where
    place : ℕ
    chosen : is place ≡ true
    from : place ≤ q
    to : q < end_at place

  abbrev NoneBelow : ℕ → ℕ → Type 0
  NoneBelow q k = (p : ℕ) → p < k → is p ≡ true → p ≤ q → q < end_at p → ⊥

  with_one : (q k : ℕ) → NoneBelow q k → (is k ≡ true → q < end_at k → ⊥) → NoneBelow q (suc k)
  with_one q k none here p a i b c = go (ltb p k) refl
    where
      go : (t : Bool) → ltb p k ≡ t → ⊥
      go true e = none p (ltb-true p k e) i b c
      go false e =
          let same : p ≡ k = omega (arith, ltb-false p k e) in
          here (subst (λ (j : ℕ). is j ≡ true) same i) (subst (λ (j : ℕ). q < end_at j) same c)

  one_more : (q k : ℕ) → k ≤ q → NoneBelow q k → (t u : Bool) → is k ≡ t → ltb q (end_at k) ≡ u → Holder q ⊎ NoneBelow q (suc k)
  one_more q k h none true true e f = inl (record { place = k; chosen = e; from = h; to = ltb-true q (end_at k) f })
  one_more q k h none true false e f = inr (with_one q k none (λ i l. absurd (omega (arith, ltb-false q (end_at k) f))))
  one_more q k h none false u e f = inr (with_one q k none (λ i l. true≢false (sym i ∙ e)))

  search_to : (q k : ℕ) → k ≤ suc q → Holder q ⊎ NoneBelow q k
  search_to q zero h = inr (λ p a i b c. omega arith)
  search_to q (suc k) h = go (search_to q k (omega arith))
    where
      go : Holder q ⊎ NoneBelow q k → Holder q ⊎ NoneBelow q (suc k)
      go (inl a) = inl a
      go (inr none) = one_more q k (omega arith) none (is k) (ltb q (end_at k)) refl refl

  -- what covers the start of an intact record is none of them
  covering_false : (at : ℕ) → is at ≡ true → (c : Cover (listing log) at) → is c.start ≡ false
  covering_false at i c = go (is c.start) refl
    where
      go : (t : Bool) → is c.start ≡ t → t ≡ false
      go true e =
          let k = listed_is log 0 (listing log) c.start c.long (listing_walks log) c.kept in
          absurd (omega (arith, parted c.start at e i c.before, k.long, c.over))
      go false e = refl

  within_holder : (q n : ℕ) → IsFalse log is q n → Holder q → InCovered log is q
  within_holder q n f h = go (kept_or log h.place (stand h.place h.chosen))
    where
      later : (t : Bool) → ltb h.place q ≡ t → h.place < q
      later true e = ltb-true h.place q e
      later false e =
          let same : h.place ≡ q = omega (arith, ltb-false h.place q e, h.from) in
          absurd (true≢false (sym h.chosen ∙ ap is same ∙ f.not_intact))

      go : Listed (Kept h.place (record_length (drop h.place log))) (listing log) ⊎ Cover (listing log) h.place → InCovered log is q
      go (inl k) = absurd (false_within log h.place q n f.kept (later (ltb h.place q) refl) h.to k)
      go (inr c) = record {
        at = h.place;
        intact_place = h.chosen;
        behind = later (ltb h.place q) refl;
        within = h.to;
        start = c.start;
        long = c.long;
        earlier = record { kept = c.kept; not_intact = covering_false h.place h.chosen c };
        before = c.before;
        over = c.over;
      }

  begins : (q n : ℕ) → IsFalse log is q n → InOther log is q ⊎ InCovered log is q
  begins q n f = go (search_to q (suc q) (omega arith))
    where
      go : Holder q ⊎ NoneBelow q (suc q) → InOther log is q ⊎ InCovered log is q
      go (inl h) = inr (within_holder q n f h)
      go (inr none) = inl (λ p i a b. none p (omega arith) i a b)

  back : (k q n : ℕ) → q < k → IsFalse log is q n → GoesBack log is q
  back zero q n h f = absurd (omega arith)
  back (suc k) q n h f = go (λ i m l g. back k i m l g) (begins q n f)
    where
      go : ((i m : ℕ) → i < k → IsFalse log is i m → GoesBack log is i) → InOther log is q ⊎ InCovered log is q → GoesBack log is q
      go again (inl o) = record { start = q; long = n; first = f; before = omega arith; from_other = o }
      go again (inr c) =
          let g = again c.start c.long (omega (arith, c.before, c.behind)) c.earlier in
          record { start = g.start; long = g.long; first = g.first; before = omega (arith, g.before, c.before, c.behind); from_other = g.from_other }

-- ---- the intact records among the pieces of a log
one_of : (a b : Bool) → (a || b) ≡ true → (a ≡ true) ⊎ (b ≡ true)
one_of true b e = inl refl
one_of false b e = inr e

intact_from : (at : ℕ) (ps : List Piece) (p : ℕ) → intact_at at ps p ≡ true → at ≤ p
unfolding intact_at
intact_from at [] p i = absurd (true≢false (sym i))
intact_from at (intact r ∷ ps) p i = go (λ e. intact_from (at + length r) ps p e) (one_of (eqb p at) (intact_at (at + length r) ps p) i)
  where
    go : (intact_at (at + length r) ps p ≡ true → at + length r ≤ p) → (eqb p at ≡ true) ⊎ (intact_at (at + length r) ps p ≡ true) → at ≤ p
    go rest (inl e) = omega (arith, eqb-true p at e)
    go rest (inr e) = omega (arith, rest e)
intact_from at (other bs ∷ ps) p i = omega (arith, intact_from (at + length bs) ps p i)

module _ (log : List ℕ) where
  -- where the pieces stand in the log, from `at` on
  record Standing (at : ℕ) (ps : List Piece) : Type 0 where
    good : Pieces ps
    there : drop at log ≡ bytes_of ps
    inside : at ≤ length log

  first_is : (at : ℕ) (r : List ℕ) (ps : List Piece) → Standing at (intact r ∷ ps) → IsKept log at (length r)
  unfolding Pieces bytes_of
  first_is at r ps s = is_kept_good log at r (bytes_of ps) s.good.0 s.there s.inside

  rest_intact : (at : ℕ) (r : List ℕ) (ps : List Piece) → Standing at (intact r ∷ ps) → Standing (at + length r) ps
  unfolding Pieces bytes_of
  rest_intact at r ps s = record { good = s.good.1; there = past_part log at r (bytes_of ps) s.there; inside = (first_is at r ps s).whole }

  rest_other : (at : ℕ) (bs : List ℕ) (ps : List Piece) → Standing at (other bs ∷ ps) → Standing (at + length bs) ps
  unfolding Pieces bytes_of
  rest_other at bs ps s = record {
    good = s.good;
    there = past_part log at bs (bytes_of ps) s.there;
    inside = omega (arith, ap length s.there, length-append bs (bytes_of ps), length-drop at log, s.inside);
  }

  intact_stands : (at : ℕ) (ps : List Piece) → Standing at ps → (p : ℕ) → intact_at at ps p ≡ true → agrees (drop p log) ≡ true
  unfolding intact_at
  intact_stands at [] s p i = absurd (true≢false (sym i))
  intact_stands at (intact r ∷ ps) s p i = go (λ e. intact_stands (at + length r) ps (rest_intact at r ps s) p e) (one_of (eqb p at) (intact_at (at + length r) ps p) i)
    where
      go : (intact_at (at + length r) ps p ≡ true → agrees (drop p log) ≡ true) → (eqb p at ≡ true) ⊎ (intact_at (at + length r) ps p ≡ true) → agrees (drop p log) ≡ true
      go rest (inl e) = ap (λ (j : ℕ). agrees (drop j log)) (eqb-true p at e) ∙ (first_is at r ps s).stands
      go rest (inr e) = rest e
  intact_stands at (other bs ∷ ps) s p i = intact_stands (at + length bs) ps (rest_other at bs ps s) p i

  intact_parted : (at : ℕ) (ps : List Piece) → Standing at ps → (p q : ℕ) → intact_at at ps p ≡ true → intact_at at ps q ≡ true → p < q → p + record_length (drop p log) ≤ q
  unfolding intact_at
  intact_parted at [] s p q i j l = absurd (true≢false (sym i))
  intact_parted at (intact r ∷ ps) s p q i j l = go (λ e f. intact_parted (at + length r) ps (rest_intact at r ps s) p q e f l) (one_of (eqb p at) (intact_at (at + length r) ps p) i) (one_of (eqb q at) (intact_at (at + length r) ps q) j)
    where
      go : (intact_at (at + length r) ps p ≡ true → intact_at (at + length r) ps q ≡ true → p + record_length (drop p log) ≤ q)
          → (eqb p at ≡ true) ⊎ (intact_at (at + length r) ps p ≡ true) → (eqb q at ≡ true) ⊎ (intact_at (at + length r) ps q ≡ true) → p + record_length (drop p log) ≤ q
      go rest (inl e) (inl f) = absurd (omega (arith, eqb-true p at e, eqb-true q at f))
      go rest (inl e) (inr f) =
          let long : record_length (drop p log) ≡ length r = ap (λ (k : ℕ). record_length (drop k log)) (eqb-true p at e) ∙ sym (first_is at r ps s).long in
          omega (arith, eqb-true p at e, intact_from (at + length r) ps q f)
      go rest (inr e) (inl f) = absurd (omega (arith, eqb-true q at f, intact_from (at + length r) ps p e))
      go rest (inr e) (inr f) = rest e f
  intact_parted at (other bs ∷ ps) s p q i j l = intact_parted (at + length bs) ps (rest_other at bs ps s) p q i j l

-- ---- "where such a false record can come from": of any log, as intact records and other bytes, in whatever way it came to be so
module _ (ps : List Piece) (good : Pieces ps) where
  abbrev log : List ℕ
  log = bytes_of ps

  abbrev is_intact : ℕ → Bool
  is_intact = intact_at 0 ps

  standing : Standing log 0 ps
  standing = record { good = good; there = refl; inside = omega arith }

  -- it begins in other bytes, or within an intact record whose start a false one before it covers
  pub false_begins : (q n : ℕ) → IsFalse log is_intact q n → InOther log is_intact q ⊎ InCovered log is_intact q
  false_begins = begins log is_intact (intact_stands log 0 ps standing) (intact_parted log 0 ps standing)

  -- so each goes back to one that begins in other bytes
  pub false_goes_back : (q n : ℕ) → IsFalse log is_intact q n → GoesBack log is_intact q
  false_goes_back q n f = back log is_intact (intact_stands log 0 ps standing) (intact_parted log 0 ps standing) (suc q) q n (omega arith) f
