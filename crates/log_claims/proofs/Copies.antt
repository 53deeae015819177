-- What salvage copies: good records alone to the bit, and its own output again. Assumes nothing.
use mathlib.Core.Bool.{true}
use mathlib.Core.List.{List, [], ◌∷◌, ◌++◌, append-nil, append_assoc}
use mathlib.Core.Path.{◌≡◌, refl, sym, ap, ◌∙◌, subst}
use Prim.Native.Nat.{ℕ, ◌+◌, ◌≤◌}
use native.Mathlib.Omega.{arith}
use lib.ListN.{length, take, drop, length-append}
use lib.Seq.{take-append_seam, length-take-le}
use Rattle.log_records.specs.Records.{two_at, is_kind, record_of}
use Rattle.log_records.proofs.Places.{stands}
use Rattle.log_claims.proofs.Local.{alone_agrees}
use Rattle.log_salvage.specs.declared.Stretch.{Stretch}
use Rattle.log_salvage.specs.declared.Stretch.TheVariants.{Skipped, Kept}
use Rattle.log_claims.specs.Listing.{stretches_from, listing, copy_of, salvaged}
use Rattle.log_claims.specs.Claims.{IsKept, Walk, Good, AllGood, joined, kept_all, kept_parts}
use Rattle.log_claims.proofs.ReadBack.{record_agrees, record_length_lem, length_back}
use Rattle.log_claims.proofs.Walks.{walks, listing_walks, kept_length}
use Rattle.log_claims.proofs.Choice.{walk_one, past_part, all_kept}

-- good records at the front are all kept, whatever stands behind them
pub front_kept : (rs : List (List ℕ)) (rest : List ℕ) → AllGood rs → listing (joined rs ++ rest) ≡ kept_all 0 rs ++ stretches_from (length rest) (joined rs ++ rest) (length (joined rs))
front_kept rs rest g =
    let log = joined rs ++ rest in
    let n = length (joined rs) in
    let long = length-append (joined rs) rest in
    let behind : Walk log (0 + n) (stretches_from (length rest) log n) =
    subst (λ (i : ℕ). Walk log i (stretches_from (length rest) log n)) (omega arith) (walks (length rest) log n (omega arith) (omega arith)) in
    walk_one log 0 (listing log) (kept_all 0 rs ++ stretches_from (length rest) log n) (listing_walks log) (all_kept log 0 rs rest (stretches_from (length rest) log n) g refl (omega arith) behind)

-- ---- "a file of good records alone is copied to the bit", and nothing is skipped
pub alone_kept : (rs : List (List ℕ)) → AllGood rs → listing (joined rs) ≡ kept_all 0 rs
unfolding stretches_from
alone_kept rs g = sym (ap listing (append-nil (joined rs))) ∙ front_kept rs [] g ∙ append-nil (kept_all 0 rs)

copy_all : (log : List ℕ) (at : ℕ) (rs : List (List ℕ)) (rest : List ℕ) → drop at log ≡ joined rs ++ rest → copy_of log (kept_all at rs) ≡ joined rs
unfolding joined kept_all copy_of
copy_all log at [] rest e = refl
copy_all log at (r ∷ rs) rest e =
    let here : drop at log ≡ r ++ (joined rs ++ rest) = e ∙ append_assoc r (joined rs) rest in
    let on = past_part log at r (joined rs ++ rest) here in
    ap (λ (q : List ℕ). q ++ copy_of log (kept_all (at + length r) rs)) (ap (take (length r)) here ∙ take-append_seam r (joined rs ++ rest))
    ∙ ap (λ (q : List ℕ). r ++ q) (copy_all log (at + length r) rs rest on)

pub alone_copied : (rs : List (List ℕ)) → AllGood rs → salvaged (joined rs) ≡ joined rs
alone_copied rs g = ap (copy_of (joined rs)) (alone_kept rs g) ∙ copy_all (joined rs) 0 rs [] (sym (append-nil (joined rs)))

-- what the writer writes is a good record: so a log that it wrote, record after record, is listed as just these
pub record_good : (kind : ℕ) (payload : List ℕ) → is_kind kind ≡ true → length payload ≤ 64 → Good (record_of kind payload)
record_good kind payload k h =
    let r = record_of kind payload in
    let y = record_agrees kind payload k h in
    record { agrees_it = y; long = record_length_lem kind payload k h ∙ ap (λ (i : ℕ). 7 + i) (sym (length_back kind payload k h)) ∙ sym (kept_length r y) }

-- ---- "salvage of its own output keeps every record and skips nothing"
copy_joined : (log : List ℕ) (l : List Stretch) → copy_of log l ≡ joined (kept_parts log l)
unfolding copy_of joined kept_parts
copy_joined log [] = refl
copy_joined log (Kept at n ∷ l) = ap (λ (q : List ℕ). take n (drop at log) ++ q) (copy_joined log l)
copy_joined log (Skipped at n ∷ l) = copy_joined log l

good_part : (log : List ℕ) (at p n : ℕ) → p ≡ at → IsKept log at n → Good (take n (drop p log))
good_part log at p n e k =
    let bs = drop at log in
    let m = 7 + two_at bs 3 in
    let same : take n (drop p log) ≡ take m bs = ap (λ (i : ℕ). take n (drop i log)) e ∙ ap (λ (i : ℕ). take i bs) (k.long ∙ kept_length bs k.stands) in
    let a = alone_agrees bs k.stands in
    subst Good (sym same)
    (record {
      agrees_it = a.0;
      long = length-take-le m bs (stands bs k.stands).whole ∙ ap (λ (i : ℕ). 7 + i) (sym a.1) ∙ sym (kept_length (take m bs) a.0);
    })

pub parts_good : (log : List ℕ) (at : ℕ) (l : List Stretch) → Walk log at l → AllGood (kept_parts log l)
unfolding Walk kept_parts AllGood
parts_good log at [] w = tt
parts_good log at (Kept p n ∷ l) w = (good_part log at p n w.0 w.1.0, parts_good log (at + n) l w.1.1)
parts_good log at (Skipped p n ∷ l) w = parts_good log (at + n) l w.1.1

pub again_kept : (log : List ℕ) → listing (salvaged log) ≡ kept_all 0 (kept_parts log (listing log))
again_kept log = ap listing (copy_joined log (listing log)) ∙ alone_kept (kept_parts log (listing log)) (parts_good log 0 (listing log) (listing_walks log))

pub again_copied : (log : List ℕ) → salvaged (salvaged log) ≡ salvaged log
again_copied log =
    let rs = kept_parts log (listing log) in
    let e = copy_joined log (listing log) in
    ap salvaged e ∙ alone_copied rs (parts_good log 0 (listing log) (listing_walks log)) ∙ sym e
