-- The listing is a walk over the whole log, and the only one. Assumes nothing.
use mathlib.Core.Bool.{Bool, true, false, not, ◌&&◌, ◌||◌, true≢false, or-false}
use mathlib.Core.List.{List, [], ◌∷◌}
use mathlib.Core.Path.{◌≡◌, refl, sym, ap, ◌∙◌, subst}
use Prim.Native.Nat.{ℕ, zero, suc, ◌+◌, ◌-◌, ◌≤◌, ◌<◌}
use native.Mathlib.Nat.{add-zero}
use native.Mathlib.Omega.{arith}
use borrow.Author.Tests.{ltb-true, ltb-false}
use lib.Dec.{ltb}
use lib.ListN.{length, drop, length-drop}
use Rattle.log_records.specs.Records.{two_at, agrees, record_length, length_at}
use Rattle.log_records.proofs.Places.{stands}
use Rattle.std.specs.Prelude.{Option, Some, None}
use Rattle.log_salvage.specs.declared.Stretch.{Stretch}
use Rattle.log_salvage.specs.declared.Stretch.TheVariants.{Skipped, Kept}
use Rattle.log_salvage.specs.Salvage.{stops_at, skips, stretch_at}
use Rattle.log_claims.specs.Listing.{end_of, with_rest, stretches_from, listing}
use Rattle.log_claims.specs.Claims.{Walk}
use Rattle.log_salvage.proofs.Steps.{skips_stop, skips_pass, skips_end, is_kept, is_skipped, is_end}

-- ---- what is skipped: the walk stops at none of these bytes
neither : (a b : Bool) → (a || b) ≡ false → (a ≡ false) × (b ≡ false)
neither true b e = absurd (true≢false e)
neither false b e = (refl, e)

pub no_record : (last : Bool) (bs : List ℕ) → stops_at last bs ≡ false → agrees bs ≡ false
no_record last bs e = (neither (agrees bs) (not last && ltb (length bs) 71) e).0

-- and where the log goes on, a record's bytes were all there
pub all_there : (bs : List ℕ) → stops_at false bs ≡ false → 71 ≤ length bs
all_there bs e = ltb-false (length bs) 71 (neither (agrees bs) (not false && ltb (length bs) 71) e).1

stops_first : (last : Bool) (bs : List ℕ) → 0 < skips last bs → stops_at last bs ≡ false
stops_first last bs h = go (stops_at last bs) refl
  where
    go : (t : Bool) → stops_at last bs ≡ t → t ≡ false
    go true y = absurd (let z = skips_stop last bs y in omega arith)
    go false y = refl

-- one byte on
shorter : (last : Bool) (log : List ℕ) (at : ℕ) → 0 < skips last (drop at log) → (at < length log) × (skips last (drop at log) ≡ suc (skips last (drop (suc at) log)))
shorter last log at h = go (ltb at (length log)) refl
  where
    go : (t : Bool) → ltb at (length log) ≡ t → (at < length log) × (skips last (drop at log) ≡ suc (skips last (drop (suc at) log)))
    go true e = (ltb-true at (length log) e, skips_pass last log at (ltb-true at (length log) e) (stops_first last (drop at log) h))
    go false e = absurd (let z = skips_end last log at (ltb-false at (length log) e) in omega arith)

-- k bytes are skipped from `at` on
pub record Passes (last : Bool) (log : List ℕ) (at k : ℕ) : Type 0 where
  pub none : (i : ℕ) → i < k → stops_at last (drop (at + i) log) ≡ false
  pub whole : at ≤ length log → at + k ≤ length log
  pub stops : at + k < length log → stops_at last (drop (at + k) log) ≡ true

stops_here : (last : Bool) (log : List ℕ) (at : ℕ) → skips last (drop at log) ≡ 0 → at < length log → stops_at last (drop at log) ≡ true
stops_here last log at e l = go (stops_at last (drop at log)) refl
  where
    go : (t : Bool) → stops_at last (drop at log) ≡ t → t ≡ true
    go true y = refl
    go false y = absurd (let z = skips_pass last log at l y in omega arith)

pub passes : (last : Bool) (k : ℕ) (log : List ℕ) (at : ℕ) → skips last (drop at log) ≡ k → Passes last log at k
passes last zero log at e = record {
  none = λ i l. absurd (omega arith);
  whole = λ l. omega arith;
  stops = λ l. ap (λ (i : ℕ). stops_at last (drop i log)) (add-zero at) ∙ stops_here last log at e (omega arith);
}
passes last (suc k) log at e =
    let s = shorter last log at (omega arith) in
    let p = passes last k log (suc at) (omega (arith, s.1)) in
    let on : (i : ℕ) → at + suc i ≡ suc at + i = λ i. omega arith in
    record {
      none = first s p;
      whole = λ l. omega (arith, p.whole s.0);
      stops = λ l. ap (λ (i : ℕ). stops_at last (drop i log)) (on k) ∙ p.stops (omega arith);
    }
  where
    first : (at < length log) × (skips last (drop at log) ≡ suc (skips last (drop (suc at) log))) → Passes last log (suc at) k → (i : ℕ) → i < suc k → stops_at last (drop (at + i) log) ≡ false
    first s p zero l = ap (λ (i : ℕ). stops_at last (drop i log)) (add-zero at) ∙ stops_first last (drop at log) (omega arith)
    first s p (suc i) l =
        let on : at + suc i ≡ suc at + i = omega arith in
        ap (λ (j : ℕ). stops_at last (drop j log)) on ∙ p.none i (omega arith)

-- at the log's end the walk stops before a record alone
stops_record : (bs : List ℕ) → stops_at true bs ≡ true → agrees bs ≡ true
stops_record bs e = sym (or-false (agrees bs)) ∙ e

-- ---- the first stretch, and the rest
pub kept_length : (bs : List ℕ) → agrees bs ≡ true → record_length bs ≡ 7 + two_at bs 3
kept_length bs y = rw y

some_at : (log : List ℕ) (at : ℕ) → agrees (drop at log) ≡ true → Some (record_length (drop at log)) ≡ length_at log at
unfolding length_at
some_at log at y = rw y

none_at : (log : List ℕ) (at : ℕ) → agrees (drop at log) ≡ false → None ≡ length_at log at
unfolding length_at
none_at log at y = rw y

module _ (f : ℕ) (log : List ℕ) (at : ℕ) where
  abbrev after : Option Stretch → List Stretch
  after s = with_rest s (stretches_from f log)

  first_kept : agrees (drop at log) ≡ true → Kept at (record_length (drop at log)) ∷ stretches_from f log (at + record_length (drop at log)) ≡ stretches_from (suc f) log at
  unfolding stretches_from with_rest end_of
  first_kept y =
      let n = record_length (drop at log) in
      ap after (is_kept log at true n (some_at log at y))

  first_skipped : (k : ℕ) → agrees (drop at log) ≡ false → skips true (drop at log) ≡ k → 0 < k → Skipped at k ∷ stretches_from f log (at + k) ≡ stretches_from (suc f) log at
  unfolding stretches_from with_rest end_of
  first_skipped k y e h =
      let on : at + k - at ≡ k = omega arith in
      let s : Some (Skipped at k) ≡ stretch_at log at true = sym (ap (λ (i : ℕ). Some (Skipped at i)) on) ∙ is_skipped log at true (none_at log at y) (at + k) (omega arith) (omega arith) in
      ap after s

  first_none : agrees (drop at log) ≡ false → skips true (drop at log) ≡ 0 → [] ≡ stretches_from (suc f) log at
  unfolding stretches_from with_rest end_of
  first_none y e = ap after (is_end log at true (none_at log at y) at (omega arith) (omega arith))

-- where no record stands and nothing can be skipped, the log is over
pub at_end : (log : List ℕ) (at : ℕ) → at ≤ length log → agrees (drop at log) ≡ false → skips true (drop at log) ≡ 0 → at ≡ length log
at_end log at l y e = go (ltb at (length log)) refl
  where
    go : (t : Bool) → ltb at (length log) ≡ t → at ≡ length log
    go true z = absurd (true≢false (sym (stops_record (drop at log) (stops_here true log at e (ltb-true at (length log) z))) ∙ y))
    go false z = omega (arith, ltb-false at (length log) z)

-- the listing from a place on is a walk, where there are turns enough
module _ (f : ℕ) (log : List ℕ) (at : ℕ) (l : at ≤ length log) (h : length log ≤ at + suc f) (rest : (to : ℕ) → to ≤ length log → length log ≤ to + f → Walk log to (stretches_from f log to)) where
  walk_skipped : (k : ℕ) → agrees (drop at log) ≡ false → skips true (drop at log) ≡ k → Walk log at (stretches_from (suc f) log at)
  unfolding Walk
  walk_skipped zero y e = subst (Walk log at) (first_none f log at y e) (at_end log at l y e)
  walk_skipped (suc k) y e =
      let p = passes true (suc k) log at e in
      subst (Walk log at) (first_skipped f log at (suc k) y e (omega arith))
      (refl, (record { some = omega arith; none = λ i m. no_record true (drop (at + i) log) (p.none i m); whole = p.whole l; stops = λ m. stops_record (drop (at + suc k) log) (p.stops m) }, rest (at + suc k) (p.whole l) (omega arith)))

  walk_kept : agrees (drop at log) ≡ true → Walk log at (stretches_from (suc f) log at)
  unfolding Walk
  walk_kept y =
      let s = stands (drop at log) y in
      let n = record_length (drop at log) in
      let long = kept_length (drop at log) y in
      let whole : at + n ≤ length log = omega (arith, s.whole, length-drop at log) in
      subst (Walk log at) (first_kept f log at y)
      (refl, (record { stands = y; long = refl; some = omega arith; whole = whole }, rest (at + n) whole (omega arith)))

  walk_on : (t : Bool) → agrees (drop at log) ≡ t → Walk log at (stretches_from (suc f) log at)
  walk_on true y = walk_kept y
  walk_on false y = walk_skipped (skips true (drop at log)) y refl

pub walks : (f : ℕ) (log : List ℕ) (at : ℕ) → at ≤ length log → length log ≤ at + f → Walk log at (stretches_from f log at)
unfolding Walk stretches_from
walks zero log at l h = omega arith
walks (suc f) log at l h = walk_on f log at l h (λ to m k. walks f log to m k) (agrees (drop at log)) refl

-- "The stretches of salvage cover the file, each byte once, in order"
pub listing_walks : (log : List ℕ) → Walk log 0 (listing log)
listing_walks log = walks (length log) log 0 (omega arith) (omega arith)
