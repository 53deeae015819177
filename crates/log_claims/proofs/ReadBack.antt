-- What the writer wrote is read back, wherever it stands; and what is read is what the writer writes. Assumes nothing.
use mathlib.Core.Bool.{Bool, true, cond, ◌&&◌}
use mathlib.Core.List.{List, [], ◌∷◌, ◌++◌, append_assoc}
use mathlib.Core.Path.{◌≡◌, refl, sym, ap, ◌∙◌}
use Prim.Native.Nat.{ℕ, suc, ◌+◌, ◌*◌, ◌/◌, ◌%◌, ◌-◌, ◌≤◌, ◌<◌}
use native.Mathlib.Nat.{mod-eq_of_lt}
use native.Mathlib.Omega.{arith}
use borrow.Author.Tests.{le-leb, eq-eqb, eqb-true, leb-true}
use lib.Dec.{eqb, leb}
use lib.ListN.{length, get_or, take, drop, length-append, length-drop, take-append-drop, get_or-append}
use lib.Seq.{take_at, get_or-append-add, get_or-append_seam, take-append_seam, drop-append_seam, take-append-le, drop-append-le, drop-drop, get_or-drop, drop-cons, length-take-le}
use Rattle.error.specs.Refusals.{Said, given, unless}
use Rattle.error.proofs.Ladder.{both, join, accepted, same_given}
use Rattle.log_records.specs.Records.{two_of, two_at, is_kind, total, body_of, sum_of, record_of, mark_agrees, kind_agrees, length_agrees, sum_agrees, agrees, read_at}
use Rattle.log_writer.specs.Writer.{put_said, placed, put_area}
use Rattle.std.specs.Prelude.{Some}
use Rattle.log_records.specs.declared.Record.{Record}
use Rattle.log_records.proofs.Places.{Stands, stands, read_some}
use Rattle.log_writer.proofs.Written.{kind_most}
use Rattle.log_claims.proofs.Local.{more_agrees}

two_back : (n : ℕ) → n < 65536 → n % 256 + 256 * (n / 256 % 256) ≡ n
two_back n h = omega arith

-- a record by itself
module _ (kind : ℕ) (payload : List ℕ) (k : is_kind kind ≡ true) (h : length payload ≤ 64) where
  abbrev n : ℕ
  n = length payload

  abbrev s : ℕ
  s = sum_of (body_of kind payload)

  abbrev r : List ℕ
  r = record_of kind payload

  pub record_length_lem : length r ≡ 7 + n
  unfolding record_of
  record_length_lem = omega (arith, length-append payload (two_of s))

  pub length_back : two_at r 3 ≡ n
  unfolding record_of
  length_back = two_back n (omega arith)

  sum_back : two_at r (5 + n) ≡ s
  unfolding record_of
  sum_back =
      let head : List ℕ = 0xD7 ∷ 0x1A ∷ kind ∷ two_of n in
      let first : get_or r (5 + n) 0 ≡ s % 256 = get_or-append-add head (payload ++ two_of s) n 0 ∙ get_or-append_seam payload (s % 256) (s / 256 % 256 ∷ []) 0 in
      let on : 5 + n + 1 ≡ 5 + (n + 1) = omega arith in
      let second : get_or r (5 + n + 1) 0 ≡ s / 256 % 256 =
      ap (λ (i : ℕ). get_or r i 0) on ∙ get_or-append-add head (payload ++ two_of s) (n + 1) 0 ∙ get_or-append-add payload (two_of s) 1 0 in
      omega (arith, two_back s (omega arith))

  body_back : take (3 + n) (drop 2 r) ≡ body_of kind payload
  unfolding record_of
  body_back = take_at (body_of kind payload) (two_of s) (3 + n) (omega arith)

  marks_back : mark_agrees r ≡ true
  unfolding record_of
  marks_back = refl

  kind_back : get_or r 2 0 ≡ kind
  unfolding record_of
  kind_back = refl

  pub record_agrees : agrees r ≡ true
  unfolding agrees
  record_agrees =
      let len : length_agrees r ≡ true = rw (length_back, le-leb n 64 h, record_length_lem, le-leb (7 + n) (7 + n) (omega arith)) in
      let sum : sum_agrees r ≡ true =
      ap (λ (i : ℕ). eqb (two_at r (5 + i)) (sum_of (take (3 + i) (drop 2 r)))) length_back
      ∙ eq-eqb (two_at r (5 + n)) (sum_of (take (3 + n) (drop 2 r))) (sum_back ∙ ap sum_of (sym body_back)) in
      join marks_back (join (ap is_kind kind_back ∙ k) (join len sum))

  payload_back : take n (drop 5 r) ≡ payload
  unfolding record_of
  payload_back = take-append_seam payload (two_of s)

  -- wherever it stands: its kind, where its payload stands, and where the next one would
  pub reads_back : (front rest : List ℕ)
      → (read_at (front ++ (r ++ rest)) (length front) ≡ Some (record { kind = kind; from = length front + 5; length = n; next = length front + (7 + n) }))
      × (take n (drop (length front + 5) (front ++ (r ++ rest))) ≡ payload)
  reads_back front rest =
      let log = front ++ (r ++ rest) in
      let at = length front in
      let here : drop at log ≡ r ++ rest = drop-append_seam front (r ++ rest) in
      let y = more_agrees r rest record_agrees in
      let len : two_at (drop at log) 3 ≡ n = ap (λ (q : List ℕ). two_at q 3) here ∙ y.1 ∙ length_back in
      let kind-there : get_or log (at + 2) 0 ≡ kind = sym (get_or-drop at log 2 0) ∙ ap (λ (q : List ℕ). get_or q 2 0) here ∙ get_or-append r rest 0 2 (omega (arith, record_length_lem)) ∙ kind_back in (
        read_some log at n (ap agrees here ∙ y.0) len ∙ rw kind-there,
        ap (take n) (sym (drop-drop 5 at log) ∙ ap (drop 5) here ∙ drop-append-le 5 r rest (omega (arith, record_length_lem)))
            ∙ take-append-le n (drop 5 r) rest (omega (arith, record_length_lem, length-drop 5 r)) ∙ payload_back,
      )

-- what the writer left at the front of lent bytes, behind any others, is read back
pub written_reads : (kind : ℕ) (payload out front : List ℕ) (m : ℕ) → put_said kind payload (length out) ≡ given m
    → (read_at (front ++ put_area kind payload out) (length front) ≡ Some (record { kind = kind; from = length front + 5; length = length payload; next = length front + m }))
    × (take (length payload) (drop (length front + 5) (front ++ put_area kind payload out)) ≡ payload)
unfolding put_said placed
written_reads kind payload out front m e =
    let n = length payload in
    let a = accepted (is_kind kind) 11 [] (unless (leb n 64) 21 [] (unless (leb (7 + n) (length out)) 22 [] (given (7 + n)))) m e in
    let b = accepted (leb n 64) 21 [] (unless (leb (7 + n) (length out)) 22 [] (given (7 + n))) m a.1 in
    let c = accepted (leb (7 + n) (length out)) 22 [] (given (7 + n)) m b.1 in
    let same : 7 + n ≡ m = same_given (7 + n) m c.1 in
    let area : put_area kind payload out ≡ record_of kind payload ++ drop m out = ap (λ (s : Said ℕ). placed s (record_of kind payload) out) e in
    let r = reads_back kind payload a.0 (leb-true n 64 b.0) front (drop m out) in (
      ap (λ (q : List ℕ). read_at (front ++ q) (length front)) area ∙ r.0 ∙ ap (λ (i : ℕ). Some (record { kind = kind; from = length front + 5; length = n; next = length front + i })) same,
      ap (λ (q : List ℕ). take n (drop (length front + 5) (front ++ q))) area ∙ r.1,
    )

-- the other way: bytes that agree are what the writer writes of that kind and payload
module _ (bs : List ℕ) (y : agrees bs ≡ true) (small : (i : ℕ) → get_or bs i 0 < 256) where
  abbrev len : ℕ
  len = two_at bs 3

  abbrev held : List ℕ
  held = take len (drop 5 bs)

  whole : Stands bs (7 + len)
  whole = stands bs y

  held_length : length held ≡ len
  held_length = length-take-le len (drop 5 bs) (omega (arith, whole.whole, length-drop 5 bs))

  tests : (mark_agrees bs ≡ true) × ((kind_agrees bs ≡ true) × (sum_agrees bs ≡ true))
  unfolding agrees
  tests =
      let m = both (mark_agrees bs) (kind_agrees bs && (length_agrees bs && sum_agrees bs)) y in
      let k = both (kind_agrees bs) (length_agrees bs && sum_agrees bs) m.1 in
      let l = both (length_agrees bs) (sum_agrees bs) k.1 in
      (m.0, (k.0, l.1))

  at_front : (i : ℕ) → i < 7 + len → drop i bs ≡ get_or bs i 0 ∷ drop (suc i) bs
  at_front i l = drop-cons bs i 0 (omega (arith, whole.whole))

  head_is : bs ≡ 0xD7 ∷ 0x1A ∷ get_or bs 2 0 ∷ get_or bs 3 0 ∷ get_or bs 4 0 ∷ drop 5 bs
  head_is =
      let m = both (eqb (get_or bs 0 0) 0xD7) (eqb (get_or bs 1 0) 0x1A) tests.0 in
      at_front 0 (omega arith)
      ∙ ap (λ (b : ℕ). b ∷ drop 1 bs) (eqb-true (get_or bs 0 0) 0xD7 m.0)
      ∙ ap (λ (q : List ℕ). 0xD7 ∷ q) (at_front 1 (omega arith) ∙ ap (λ (b : ℕ). b ∷ drop 2 bs) (eqb-true (get_or bs 1 0) 0x1A m.1))
      ∙ ap (λ (q : List ℕ). 0xD7 ∷ 0x1A ∷ q) (at_front 2 (omega arith))
      ∙ ap (λ (q : List ℕ). 0xD7 ∷ 0x1A ∷ get_or bs 2 0 ∷ q) (at_front 3 (omega arith))
      ∙ ap (λ (q : List ℕ). 0xD7 ∷ 0x1A ∷ get_or bs 2 0 ∷ get_or bs 3 0 ∷ q) (at_front 4 (omega arith))

  -- two bytes of a number
  two_is : (a b n : ℕ) → a < 256 → b < 256 → a + 256 * b ≡ n → ◌≡◌ {A = List ℕ} (a ∷ b ∷ []) (two_of n)
  two_is a b n l m e =
      let f : a ≡ n % 256 = omega arith in
      let q : n / 256 ≡ b = omega arith in
      let g : b ≡ n / 256 % 256 = sym (ap (λ (i : ℕ). i % 256) q ∙ mod-eq_of_lt m) in
      ap (λ (i : ℕ). i ∷ b ∷ []) f ∙ ap (λ (i : ℕ). n % 256 ∷ i ∷ []) g

  length_is : ◌≡◌ {A = List ℕ} (get_or bs 3 0 ∷ get_or bs 4 0 ∷ []) (two_of (length held))
  length_is = two_is (get_or bs 3 0) (get_or bs 4 0) (length held) (small 3) (small 4) (sym held_length)

  body_is : take (3 + len) (drop 2 bs) ≡ body_of (get_or bs 2 0) held
  body_is =
      let three : 3 + len ≡ suc (suc (suc len)) = omega arith in
      ap (λ (i : ℕ). take i (drop 2 bs)) three ∙ ap (λ (q : List ℕ). take (suc (suc (suc len))) (drop 2 q)) head_is
      ∙ ap (λ (t : List ℕ). get_or bs 2 0 ∷ t ++ held) length_is

  sum_is : ◌≡◌ {A = List ℕ} (get_or bs (5 + len) 0 ∷ get_or bs (5 + len + 1) 0 ∷ []) (two_of (sum_of (body_of (get_or bs 2 0) held)))
  sum_is =
      two_is (get_or bs (5 + len) 0) (get_or bs (5 + len + 1) 0) (sum_of (body_of (get_or bs 2 0) held)) (small (5 + len)) (small (5 + len + 1))
      (eqb-true (two_at bs (5 + len)) (sum_of (take (3 + len) (drop 2 bs))) tests.1.1 ∙ ap sum_of body_is)

  tail_is : drop 5 bs ≡ held ++ (get_or bs (5 + len) 0 ∷ get_or bs (5 + len + 1) 0 ∷ drop (7 + len) bs)
  tail_is =
      let on : suc (5 + len) ≡ 5 + len + 1 = omega arith in
      let over : suc (5 + len + 1) ≡ 7 + len = omega arith in
      let second : drop (suc (5 + len)) bs ≡ get_or bs (5 + len + 1) 0 ∷ drop (7 + len) bs =
      ap (λ (i : ℕ). drop i bs) on ∙ at_front (5 + len + 1) (omega arith) ∙ ap (λ (i : ℕ). get_or bs (5 + len + 1) 0 ∷ drop i bs) over in
      sym (take-append-drop len (drop 5 bs))
      ∙ ap (λ (q : List ℕ). held ++ q) (drop-drop len 5 bs ∙ at_front (5 + len) (omega arith) ∙ ap (λ (q : List ℕ). get_or bs (5 + len) 0 ∷ q) second)

  pub is_record : bs ≡ record_of (get_or bs 2 0) held ++ drop (7 + len) bs
  unfolding record_of
  is_record =
      let rest = drop (7 + len) bs in
      let kind = get_or bs 2 0 in
      let a = get_or bs (5 + len) 0 in
      let b = get_or bs (5 + len + 1) 0 in
      head_is
      ∙ ap (λ (t : List ℕ). 0xD7 ∷ 0x1A ∷ kind ∷ t ++ drop 5 bs) length_is
      ∙ ap (λ (q : List ℕ). 0xD7 ∷ 0x1A ∷ kind ∷ two_of (length held) ++ q) (tail_is ∙ sym (append_assoc held (a ∷ b ∷ []) rest))
      ∙ ap (λ (t : List ℕ). 0xD7 ∷ 0x1A ∷ kind ∷ two_of (length held) ++ (held ++ t ++ rest)) sum_is

-- "modulo 65,536" is never seen: a record's sum is at most 16,388
total_most : (xs : List ℕ) → ((i : ℕ) → get_or xs i 0 < 256) → total xs ≤ 255 * length xs
unfolding total
total_most [] small = omega arith
total_most (x ∷ xs) small =
    let here : x < 256 = small 0 in
    omega (arith, total_most xs (λ i. small (suc i)))

pub sum_most : (kind : ℕ) (payload : List ℕ) → is_kind kind ≡ true → length payload ≤ 64 → ((i : ℕ) → get_or payload i 0 < 256) → total (body_of kind payload) ≤ 16388
unfolding total
sum_most kind payload k h small =
    let low : length payload % 256 ≡ length payload = mod-eq_of_lt (omega arith) in
    let high : length payload / 256 % 256 ≡ 0 = omega arith in
    omega (arith, kind_most kind k, total_most payload small)
