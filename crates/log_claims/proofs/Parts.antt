-- A log that is walked part after part: what is told of a part holds of the log, and what is told in all is the log's listing. Assumes nothing.
use mathlib.Core.Bool.{Bool, true, false, cond}
use mathlib.Core.List.{List, [], ◌∷◌, ◌++◌, append-nil}
use mathlib.Core.Path.{◌≡◌, refl, sym, ap, ◌∙◌, subst}
use Prim.Native.Nat.{ℕ, ◌+◌, ◌-◌, ◌≤◌, ◌<◌}
use native.Mathlib.Omega.{arith}
use borrow.Author.Tests.{ltb-true, ltb-false}
use lib.Dec.{ltb}
use lib.ListN.{length, drop, length-append, length-drop}
use lib.Seq.{drop-append-le, drop-append-add}
use Rattle.log_records.specs.Records.{two_at, agrees, record_length}
use Rattle.log_records.proofs.Places.{stands}
use Rattle.log_claims.proofs.Local.{judged, more_agrees}
use Rattle.std.specs.Prelude.{Option, Some, None}
use Rattle.log_salvage.specs.declared.Stretch.{Stretch}
use Rattle.log_salvage.specs.declared.Stretch.TheVariants.{Skipped, Kept}
use Rattle.log_salvage.specs.Salvage.{stops_at, skips, stretch_at}
use Rattle.log_claims.specs.Listing.{listing}
use Rattle.log_claims.specs.Claims.{IsKept, Walk}
use Rattle.log_claims.specs.Parts.{NoneIn, pending, InHand, stretch_in, Told, passed, kept, ended}
use Rattle.log_claims.proofs.Walks.{listing_walks, passes, no_record, all_there, kept_length, at_end}
use Rattle.log_claims.proofs.Choice.{walk_one}

-- ---- what a stretch of a part tells
module _ (part : List ℕ) (at n : ℕ) (last : Bool) where
  abbrev bs : List ℕ
  bs = drop at part

  abbrev unkept : Bool → Option Stretch
  unkept t = cond t (Some (Skipped at (skips last bs))) None

  abbrev judged_by : Bool → Bool → Option Stretch
  judged_by y t = cond y (Some (Kept at (record_length bs))) (unkept t)

  is_judged : (y t : Bool) → agrees bs ≡ y → ltb 0 (skips last bs) ≡ t → judged_by y t ≡ stretch_at part at last
  unfolding stretch_at
  is_judged y t e f = sym (ap (λ (a : Bool). judged_by a (ltb 0 (skips last bs))) e ∙ ap (judged_by y) f)

  -- of one stretch the two tests are known
  of_kept : (y t : Bool) → agrees bs ≡ y → ltb 0 (skips last bs) ≡ t → stretch_at part at last ≡ Some (Kept at n) → (agrees bs ≡ true) × (n ≡ record_length bs)
  of_kept true t a b e = let k = is_judged true t a b ∙ e in (a, cc)
  of_kept false true a b e = let k = is_judged false true a b ∙ e in cc
  of_kept false false a b e = let k = is_judged false false a b ∙ e in cc

  of_skipped : (y t : Bool) → agrees bs ≡ y → ltb 0 (skips last bs) ≡ t → stretch_at part at last ≡ Some (Skipped at n) → (skips last bs ≡ n) × (0 < n)
  of_skipped true t a b e = let k = is_judged true t a b ∙ e in cc
  of_skipped false true a b e =
      let j = is_judged false true a b ∙ e in
      let k : skips last bs ≡ n = cc in
      (k, omega (arith, ltb-true 0 (skips last bs) b))
  of_skipped false false a b e = let k = is_judged false false a b ∙ e in cc

  of_end : (y t : Bool) → agrees bs ≡ y → ltb 0 (skips last bs) ≡ t → stretch_at part at last ≡ None → (agrees bs ≡ false) × (skips last bs ≡ 0)
  of_end true t a b e = let k = is_judged true t a b ∙ e in cc
  of_end false true a b e = let k = is_judged false true a b ∙ e in cc
  of_end false false a b e = (a, omega (arith, ltb-false 0 (skips last bs) b))

-- ---- a part in its log: bytes before it, and behind it where it is not the last
module _ (front part more : List ℕ) (last : Bool) (ends : last ≡ true → more ≡ []) where
  abbrev log : List ℕ
  log = front ++ (part ++ more)

  abbrev base : ℕ
  base = length front

  there : (at : ℕ) → at ≤ length part → drop (base + at) log ≡ drop at part ++ more
  there at h = drop-append-add front (part ++ more) at ∙ drop-append-le at part more h

  -- a record that is kept in the part is one of the log
  pub part_kept : (at n : ℕ) → at ≤ length part → stretch_at part at last ≡ Some (Kept at n) → IsKept log (base + at) n
  part_kept at n h e =
      let t = of_kept part at n last (agrees (drop at part)) (ltb 0 (skips last (drop at part))) refl refl e in
      let m = more_agrees (drop at part) more t.0 in
      let y : agrees (drop (base + at) log) ≡ true = ap agrees (there at h) ∙ m.0 in
      let long : n ≡ 7 + two_at (drop at part) 3 = t.1 ∙ kept_length (drop at part) t.0 in
      let same : two_at (drop (base + at) log) 3 ≡ two_at (drop at part) 3 = ap (λ (q : List ℕ). two_at q 3) (there at h) ∙ m.1 in
      record {
        stands = y;
        long = long ∙ ap (λ (i : ℕ). 7 + i) (sym same) ∙ sym (kept_length (drop (base + at) log) y);
        some = omega arith;
        whole = omega (arith, long, (stands (drop at part) t.0).whole, length-drop at part, length-append front (part ++ more), length-append part more);
      }

  settled : (bs : List ℕ) → stops_at last bs ≡ false → agrees (bs ++ more) ≡ false
  settled bs e = go last refl
    where
      go : (t : Bool) → last ≡ t → agrees (bs ++ more) ≡ false
      go true l = ap (λ (q : List ℕ). agrees (bs ++ q)) (ends l) ∙ ap agrees (append-nil bs) ∙ no_record last bs e
      go false l = judged bs more (all_there bs (ap (λ (t : Bool). stops_at t bs) (sym l) ∙ e)) ∙ no_record last bs e

  -- and at no byte that is skipped in the part does one of the log begin
  pub part_skipped : (at n : ℕ) → at ≤ length part → stretch_at part at last ≡ Some (Skipped at n) → (at + n ≤ length part) × NoneIn log (base + at) (base + (at + n))
  part_skipped at n h e =
      let p = passes last n part at (of_skipped part at n last (agrees (drop at part)) (ltb 0 (skips last (drop at part))) refl refl e).0 in (
        p.whole h,
        λ i a b.
            let j : i ≡ base + (at + (i - (base + at))) = omega arith in
            ap (λ (k : ℕ). agrees (drop k log)) j
            ∙ ap agrees (there (at + (i - (base + at))) (omega (arith, p.whole h)))
            ∙ settled (drop (at + (i - (base + at))) part) (p.none (i - (base + at)) (omega arith)),
      )

-- ---- what is told in all: a stretch skipped is told when the next record, or the end, is found
pending_kept : (log : List ℕ) (s p n : ℕ) (l : List Stretch) → s ≤ p → NoneIn log s p → IsKept log p n → Walk log (p + n) l → Walk log s (pending s p (Kept p n ∷ l))
unfolding Walk
pending_kept log s p n l h none k w = go (ltb s p) refl
  where
    go : (t : Bool) → ltb s p ≡ t → Walk log s (cond t (Skipped s (p - s) ∷ Kept p n ∷ l) (Kept p n ∷ l))
    go true e =
        let a = ltb-true s p e in
        let on : s + (p - s) ≡ p = omega arith in (
          refl,
          (
            record {
              some = omega arith;
              none = λ i m. none (s + i) (omega arith) (omega arith);
              whole = omega (arith, k.whole);
              stops = λ m. ap (λ (i : ℕ). agrees (drop i log)) on ∙ k.stands;
            },
            subst (λ (i : ℕ). (p ≡ i) × (IsKept log i n × Walk log (i + n) l)) (sym on) (refl, (k, w)),
          ),
        )
    go false e =
        let same : p ≡ s = omega (arith, ltb-false s p e) in
        subst (λ (i : ℕ). (p ≡ i) × (IsKept log i n × Walk log (i + n) l)) same (refl, (k, w))

pending_end : (log : List ℕ) (s : ℕ) → s ≤ length log → NoneIn log s (length log) → Walk log s (pending s (length log) [])
unfolding Walk
pending_end log s h none = go (ltb s (length log)) refl
  where
    go : (t : Bool) → ltb s (length log) ≡ t → Walk log s (cond t (Skipped s (length log - s) ∷ []) [])
    go true e =
        let a = ltb-true s (length log) e in
        let on : s + (length log - s) ≡ length log = omega arith in
        (refl, (record { some = omega arith; none = λ i m. none (s + i) (omega arith) (omega arith); whole = omega arith; stops = λ m. absurd (omega arith) }, on))
    go false e = omega (arith, ltb-false s (length log) e)

-- ---- and a part in hand
module _ (log : List ℕ) (p : ℕ) (h : InHand log p) where
  hand_kept : (n : ℕ) → stretch_in log p h ≡ Some (Kept h.at n) → IsKept log p n
  hand_kept n e = subst (λ (q : List ℕ). IsKept q p n) h.joins (subst (λ (i : ℕ). IsKept (h.front ++ (h.part ++ h.more)) i n) h.here (part_kept h.front h.part h.more h.last h.ends h.at n h.inside e))

  hand_skipped : (n : ℕ) → stretch_in log p h ≡ Some (Skipped h.at n) → NoneIn log p (p + n)
  hand_skipped n e =
      let k = (part_skipped h.front h.part h.more h.last h.ends h.at n h.inside e).1 in
      λ i a b. sym (ap (λ (q : List ℕ). agrees (drop i q)) h.joins) ∙ k i (omega (arith, h.here)) (omega (arith, h.here))

  hand_ended : h.last ≡ true → stretch_in log p h ≡ None → p ≡ length log
  hand_ended l e =
      let t = of_end h.part h.at 0 h.last (agrees (drop h.at h.part)) (ltb 0 (skips h.last (drop h.at h.part))) refl refl e in
      let at_last = at_end h.part h.at h.inside t.0 (sym (ap (λ (b : Bool). skips b (drop h.at h.part)) l) ∙ t.1) in
      omega (arith, h.here, at_last, ap length (h.ends l), ap length h.joins, length-append h.front (h.part ++ h.more), length-append h.part h.more)

none_more : (log : List ℕ) (s p n : ℕ) → NoneIn log s p → NoneIn log p (p + n) → NoneIn log s (p + n)
none_more log s p n a b i l m = go (ltb i p) refl
  where
    go : (t : Bool) → ltb i p ≡ t → agrees (drop i log) ≡ false
    go true e = a i l (ltb-true i p e)
    go false e = b i (ltb-false i p e) m

tells : (log : List ℕ) (s p : ℕ) (l : List Stretch) → Told log s p l → s ≤ p → NoneIn log s p → Walk log s l
tells log s p l (passed s' p' n l' h e t) a none = tells log s (p + n) l t (omega arith) (none_more log s p n none (hand_skipped log p h n e))
tells log s p l (kept s' p' n rest h e t) a none =
    pending_kept log s p n rest a none (hand_kept log p h n e) (tells log (p + n) (p + n) rest t (omega arith) (λ i b c. absurd (omega arith)))
tells log s p l (ended s' p' h last e) a none =
    let there = hand_ended log p h last e in
    subst (λ (q : ℕ). Walk log s (pending s q [])) (sym there) (pending_end log s (omega arith) (subst (NoneIn log s) there none))

-- "any length of file, in parts": in whatever parts a log is walked, what is told of it is its listing
pub in_parts : (log : List ℕ) (l : List Stretch) → Told log 0 0 l → l ≡ listing log
in_parts log l t = walk_one log 0 l (listing log) (tells log 0 0 l t (omega arith) (λ i a b. absurd (omega arith))) (listing_walks log)
