-- The bytes from a place on, as the code reads them. Assumes nothing.
use mathlib.Core.Bool.{Bool, true, false, cond, ◌&&◌}
use mathlib.Core.List.{List}
use mathlib.Core.Path.{◌≡◌, refl, sym, ap, ◌∙◌, subst}
use Rattle.std.specs.Prelude.{Some, None, option_map}
use Prim.Native.Nat.{ℕ, ◌+◌, ◌-◌, ◌%◌, ◌≤◌, ◌<◌}
use native.Mathlib.Nat.{add-zero, add_assoc}
use native.Mathlib.Omega.{arith}
use borrow.Author.Tests.{le-leb, lt-leb, leb-true}
use lib.Dec.{eqb, leb}
use lib.ListN.{length, get_or, take, drop, length-drop}
use lib.Seq.{get_or-drop, drop-drop}
use Rattle.error.proofs.Ladder.{both, join}
use Rattle.log_records.specs.Records.{two_at, is_kind, total, sum_of, mark_agrees, kind_agrees, length_agrees, sum_agrees, agrees, length_at, record_at, read_at}
use Rattle.log_records.specs.declared.Record.{Record}

first : (log : List ℕ) (at : ℕ) → get_or log at 0 ≡ get_or (drop at log) 0 0
first log at = sym (get_or-drop at log 0 0 ∙ ap (λ (i : ℕ). get_or log i 0) (add-zero at))

then : (log : List ℕ) (at k : ℕ) → get_or log (at + k) 0 ≡ get_or (drop at log) k 0
then log at k = sym (get_or-drop at log k 0)

pub head_at : (log : List ℕ) (at : ℕ) → ((eqb (get_or log at 0) 0xD7 && eqb (get_or log (at + 1) 0) 0x1A) && is_kind (get_or log (at + 2) 0)) ≡ (mark_agrees (drop at log) && kind_agrees (drop at log))
head_at log at = rw (first log at, then log at 1, then log at 2)

pub two_drop : (log : List ℕ) (at k : ℕ) → two_at log (at + k) ≡ two_at (drop at log) k
two_drop log at k =
    let next : get_or log (at + k + 1) 0 ≡ get_or (drop at log) (k + 1) 0 = ap (λ (i : ℕ). get_or log i 0) (add_assoc at k 1) ∙ then log at (k + 1) in
    omega (arith, then log at k, next)

pub sum_at : (log : List ℕ) (at n r t : ℕ) → n ≡ two_at log (at + 3) → r ≡ two_at log (at + (5 + n)) → t ≡ total (take (3 + n) (drop (at + 2) log))
    → eqb r (t % 65536) ≡ sum_agrees (drop at log)
sum_at log at n r t e h k =
    let bs = drop at log in
    let rest : t ≡ total (take (3 + n) (drop 2 bs)) = k ∙ ap (λ (q : List ℕ). total (take (3 + n) q)) (sym (drop-drop 2 at log)) in
    ap (λ (i : ℕ). eqb i (t % 65536)) (h ∙ two_drop log at (5 + n))
    ∙ ap (λ (i : ℕ). eqb (two_at bs (5 + n)) (i % 65536)) rest
    ∙ ap (λ (i : ℕ). eqb (two_at bs (5 + i)) (sum_of (take (3 + i) (drop 2 bs)))) (e ∙ two_drop log at 3)

-- ---- the tests of a record, joined
fail_head : (m k r : Bool) → (m && k) ≡ false → (m && (k && r)) ≡ false
fail_head true k r e = rw e
fail_head false k r e = refl

pub fail_length : (m k l s : Bool) → l ≡ false → (m && (k && (l && s))) ≡ false
fail_length true true l s e = rw e
fail_length true false l s e = refl
fail_length false k l s e = refl

fail_sum : (m k l s : Bool) → s ≡ false → (m && (k && (l && s))) ≡ false
fail_sum true true true s e = e
fail_sum true true false s e = refl
fail_sum true false l s e = refl
fail_sum false k l s e = refl

hold_all : (m k l s : Bool) → (m && k) ≡ true → l ≡ true → s ≡ true → (m && (k && (l && s))) ≡ true
hold_all m k l s h f g =
    let b = both m k h in
    join b.0 (join b.1 (join f g))

no_length : (log : List ℕ) (at : ℕ) → agrees (drop at log) ≡ false → None ≡ length_at log at
unfolding length_at
no_length log at e = rw e

fails_length : (n room : ℕ) → room < 7 + n → (leb n 64 && leb (7 + n) room) ≡ false
fails_length n room h = go (leb n 64)
  where
    go : (t : Bool) → (t && leb (7 + n) room) ≡ false
    go true = lt-leb (7 + n) room h
    go false = refl

module _ (log : List ℕ) (at : ℕ) where
  -- the record would go past the end
  pub none_cut : (n : ℕ) → n ≡ two_at log (at + 3) → length log < at + (7 + n) → None ≡ length_at log at
  unfolding agrees
  none_cut n e h =
      let bs = drop at log in
      let m = e ∙ two_drop log at 3 in
      no_length log at
      (fail_length (mark_agrees bs) (kind_agrees bs) (length_agrees bs) (sum_agrees bs) (fails_length (two_at bs 3) (length bs) (omega (arith, m, length-drop at log))))

  pub none_short : length log < at + 7 → None ≡ length_at log at
  none_short h = none_cut (two_at log (at + 3)) refl (omega arith)

  pub none_head : (mark_agrees (drop at log) && kind_agrees (drop at log)) ≡ false → None ≡ length_at log at
  unfolding agrees
  none_head h =
      let bs = drop at log in
      no_length log at (fail_head (mark_agrees bs) (kind_agrees bs) (length_agrees bs && sum_agrees bs) h)

  pub none_long : (n : ℕ) → n ≡ two_at log (at + 3) → 64 < n → None ≡ length_at log at
  unfolding agrees
  none_long n e h =
      let bs = drop at log in
      let m = e ∙ two_drop log at 3 in
      no_length log at
      (fail_length (mark_agrees bs) (kind_agrees bs) (length_agrees bs) (sum_agrees bs) (rw (lt-leb (two_at bs 3) 64 (omega (arith, m)))))

  pub none_sum : sum_agrees (drop at log) ≡ false → None ≡ length_at log at
  unfolding agrees
  none_sum h =
      let bs = drop at log in
      no_length log at (fail_sum (mark_agrees bs) (kind_agrees bs) (length_agrees bs) (sum_agrees bs) h)

  pub some_length : (n : ℕ) → (mark_agrees (drop at log) && kind_agrees (drop at log)) ≡ true → n ≡ two_at log (at + 3) → n ≤ 64 → at + (7 + n) ≤ length log
      → sum_agrees (drop at log) ≡ true → Some (7 + n) ≡ length_at log at
  unfolding agrees length_at
  some_length n h e l f g =
      let bs = drop at log in
      let m = e ∙ two_drop log at 3 in
      let long : length_agrees bs ≡ true = join (le-leb (two_at bs 3) 64 (omega (arith, m))) (le-leb (7 + two_at bs 3) (length bs) (omega (arith, m, length-drop at log))) in
      let yes = hold_all (mark_agrees bs) (kind_agrees bs) (length_agrees bs) (sum_agrees bs) h long g in
      ap (λ (i : ℕ). Some (7 + i)) m ∙ sym (ap (λ (t : Bool). cond t (Some (7 + two_at bs 3)) None) yes)

-- ---- what a length tells: that a record stands there and lies whole in the log, or that none does
pub record Stands (bs : List ℕ) (n : ℕ) : Type 0 where
  pub yes : agrees bs ≡ true
  pub length_is : n ≡ 7 + two_at bs 3
  pub short : two_at bs 3 ≤ 64
  pub whole : n ≤ length bs

pub agrees_length : (bs : List ℕ) → agrees bs ≡ true → length_agrees bs ≡ true
unfolding agrees
agrees_length bs h =
    let m = both (mark_agrees bs) (kind_agrees bs && (length_agrees bs && sum_agrees bs)) h in
    let k = both (kind_agrees bs) (length_agrees bs && sum_agrees bs) m.1 in
    (both (length_agrees bs) (sum_agrees bs) k.1).0

pub stands : (bs : List ℕ) → agrees bs ≡ true → Stands bs (7 + two_at bs 3)
stands bs h =
    let b = both (leb (two_at bs 3) 64) (leb (7 + two_at bs 3) (length bs)) (agrees_length bs h) in
    record { yes = h; length_is = refl; short = leb-true (two_at bs 3) 64 b.0; whole = leb-true (7 + two_at bs 3) (length bs) b.1 }

pub of_some : (log : List ℕ) (at n : ℕ) → Some n ≡ length_at log at → Stands (drop at log) n
unfolding length_at
of_some log at n e = go (agrees (drop at log)) refl
  where
    bs : List ℕ
    bs = drop at log

    go : (t : Bool) → agrees bs ≡ t → Stands bs n
    go true y = let k : n ≡ 7 + two_at bs 3 = cc in
        subst (λ (i : ℕ). Stands bs i) (sym k) (stands bs y)
    go false y = cc

pub of_none : (log : List ℕ) (at : ℕ) → None ≡ length_at log at → agrees (drop at log) ≡ false
unfolding length_at
of_none log at e = go (agrees (drop at log)) refl
  where
    go : (t : Bool) → agrees (drop at log) ≡ t → t ≡ false
    go true y = cc
    go false y = refl

pub read_some : (log : List ℕ) (at n : ℕ) → agrees (drop at log) ≡ true → two_at (drop at log) 3 ≡ n
    → read_at log at ≡ Some (record { kind = get_or log (at + 2) 0; from = at + 5; length = n; next = at + (7 + n) })
unfolding read_at
read_some log at n y e = let l : two_at log (at + 3) ≡ n = two_drop log at 3 ∙ e in rw (y, l)

-- what is read is told by the length
pub read_by : (log : List ℕ) (at : ℕ) → read_at log at ≡ option_map (λ (n : ℕ). record { kind = get_or log (at + 2) 0; from = at + 5; length = n - 7; next = at + n }) (length_at log at)
unfolding read_at length_at
read_by log at = go (agrees (drop at log))
  where
    n : ℕ
    n = two_at (drop at log) 3

    go : (t : Bool) → cond t (Some (record_at log at)) None
        ≡ option_map (λ (n : ℕ). record { kind = get_or log (at + 2) 0; from = at + 5; length = n - 7; next = at + n }) (cond t (Some (7 + n)) None)
    go true = let l : 7 + n - 7 ≡ n = omega arith in rw (two_drop log at 3, l)
    go false = refl
