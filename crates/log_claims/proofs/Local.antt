-- Whether a record stands first among some bytes is settled by its own bytes: others behind them, or none, change nothing. Assumes nothing.
use mathlib.Core.Bool.{Bool, true, false, ◌&&◌}
use mathlib.Core.List.{List, ◌++◌}
use mathlib.Core.Path.{◌≡◌, refl, sym, ap, ◌∙◌}
use Prim.Native.Nat.{ℕ, ◌+◌, ◌≤◌, ◌<◌}
use native.Mathlib.Nat.{le_refl}
use native.Mathlib.Omega.{arith}
use borrow.Author.Tests.{le-leb, leb-true}
use lib.Dec.{eqb, leb, lit≤}
use lib.ListN.{length, get_or, take, drop, length-append}
use lib.Seq.{get_or-take, take-take, take-add, drop_at, length-take-le, take-append-le}
use Rattle.log_records.specs.Records.{two_at, is_kind, sum_of, mark_agrees, kind_agrees, length_agrees, sum_agrees, agrees}
use Rattle.log_records.proofs.Places.{stands, fail_length}

-- the same first m bytes
module _ (m : ℕ) (bs cs : List ℕ) (e : take m bs ≡ take m cs) where
  same_byte : (i : ℕ) → i < m → get_or bs i 0 ≡ get_or cs i 0
  same_byte i l = sym (get_or-take m bs i 0 l) ∙ ap (λ (q : List ℕ). get_or q i 0) e ∙ get_or-take m cs i 0 l

  same_two : (i : ℕ) → i + 1 < m → two_at bs i ≡ two_at cs i
  same_two i l = omega (arith, same_byte i (omega arith), same_byte (i + 1) l)

  same_front : (k : ℕ) → k ≤ m → take k bs ≡ take k cs
  same_front k l = sym (take-take k m bs l) ∙ ap (take k) e ∙ take-take k m cs l

-- k bytes behind the first two
behind_two : (bs : List ℕ) (k : ℕ) → 2 ≤ length bs → take k (drop 2 bs) ≡ drop 2 (take (2 + k) bs)
behind_two bs k h = sym (ap (drop 2) (take-add 2 k bs) ∙ drop_at (take 2 bs) (take k (drop 2 bs)) 2 (length-take-le 2 bs h))

-- the same first m bytes, where a record that agrees has no more of them
module _ (m : ℕ) (bs cs : List ℕ) (e : take m bs ≡ take m cs) (b : m ≤ length bs) (c : m ≤ length cs) (h : 7 ≤ m) where
  pub same_length : two_at bs 3 ≡ two_at cs 3
  same_length = same_two m bs cs e 3 (omega arith)

  same_marks : mark_agrees bs ≡ mark_agrees cs
  same_marks = ap (λ (i : ℕ). eqb i 0xD7 && eqb (get_or bs 1 0) 0x1A) (same_byte m bs cs e 0 (omega arith)) ∙ ap (λ (i : ℕ). eqb (get_or cs 0 0) 0xD7 && eqb i 0x1A) (same_byte m bs cs e 1 (omega arith))

  same_kinds : kind_agrees bs ≡ kind_agrees cs
  same_kinds = ap is_kind (same_byte m bs cs e 2 (omega arith))

  same_sums : 7 + two_at bs 3 ≤ m → sum_agrees bs ≡ sum_agrees cs
  same_sums l =
      let n = two_at bs 3 in
      ap (λ (i : ℕ). eqb i (sum_of (take (3 + n) (drop 2 bs)))) (same_two m bs cs e (5 + n) (omega arith))
      ∙ ap (λ (q : List ℕ). eqb (two_at cs (5 + n)) (sum_of q))
      (behind_two bs (3 + n) (omega arith) ∙ ap (drop 2) (same_front m bs cs e (2 + (3 + n)) (omega arith)) ∙ sym (behind_two cs (3 + n) (omega arith)))
      ∙ ap (λ (i : ℕ). eqb (two_at cs (5 + i)) (sum_of (take (3 + i) (drop 2 cs)))) same_length

  pub same_agrees : (two_at bs 3 ≤ 64 → 7 + two_at bs 3 ≤ m) → agrees bs ≡ agrees cs
  unfolding agrees
  same_agrees f = go (leb (two_at bs 3) 64) refl
    where
      go : (t : Bool) → leb (two_at bs 3) 64 ≡ t → agrees bs ≡ agrees cs
      go true y =
          let l = f (leb-true (two_at bs 3) 64 y) in
          let lb : length_agrees bs ≡ true = rw (y, le-leb (7 + two_at bs 3) (length bs) (omega arith)) in
          let lc : length_agrees cs ≡ true = rw (← same_length, y, le-leb (7 + two_at bs 3) (length cs) (omega arith)) in
          rw (lb, lc, same_marks, same_kinds, same_sums l)
      go false y =
          let lb : length_agrees bs ≡ false = rw y in
          let lc : length_agrees cs ≡ false = rw (← same_length, y) in
          fail_length (mark_agrees bs) (kind_agrees bs) (length_agrees bs) (sum_agrees bs) lb
          ∙ sym (fail_length (mark_agrees cs) (kind_agrees cs) (length_agrees cs) (sum_agrees cs) lc)

-- 71 bytes settle it, whatever stands behind them
pub judged : (xs ys : List ℕ) → 71 ≤ length xs → agrees (xs ++ ys) ≡ agrees xs
judged xs ys h = same_agrees 71 (xs ++ ys) xs (take-append-le 71 xs ys h) (omega (arith, length-append xs ys)) h (lit≤ tt) (λ l. omega arith)

-- a record stays one with bytes behind it
pub more_agrees : (xs ys : List ℕ) → agrees xs ≡ true → (agrees (xs ++ ys) ≡ true) × (two_at (xs ++ ys) 3 ≡ two_at xs 3)
more_agrees xs ys y =
    let s = stands xs y in
    let m = 7 + two_at xs 3 in
    let e : take m xs ≡ take m (xs ++ ys) = sym (take-append-le m xs ys s.whole) in
    let long : m ≤ length (xs ++ ys) = omega (arith, s.whole, length-append xs ys) in
    (sym (same_agrees m xs (xs ++ ys) e s.whole long (omega arith) (λ l. le_refl m)) ∙ y, sym (same_length m xs (xs ++ ys) e s.whole long (omega arith)))

-- and by itself
pub alone_agrees : (bs : List ℕ) → agrees bs ≡ true → (agrees (take (7 + two_at bs 3) bs) ≡ true) × (two_at (take (7 + two_at bs 3) bs) 3 ≡ two_at bs 3)
alone_agrees bs y =
    let s = stands bs y in
    let m = 7 + two_at bs 3 in
    let e : take m bs ≡ take m (take m bs) = sym (take-take m m bs (le_refl m)) in
    let long : m ≤ length (take m bs) = omega (arith, length-take-le m bs s.whole) in
    (sym (same_agrees m bs (take m bs) e s.whole long (omega arith) (λ l. le_refl m)) ∙ y, sym (same_length m bs (take m bs) e s.whole long (omega arith)))
