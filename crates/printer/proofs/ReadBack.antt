-- What a reader may ask: a number below 2 ^ 64 that was put in decimal is read back. Assumes nothing.
use mathlib.Core.Bool.{Bool, true, false, cond}
use mathlib.Core.List.{List, [], ◌∷◌, ◌++◌}
use mathlib.Core.Path.{◌≡◌, refl, sym, ap, ◌∙◌, subst}
use Prim.Native.Nat.{ℕ, zero, suc, ◌+◌, ◌*◌, ◌/◌, ◌%◌, ◌^◌, min, ◌<◌}
use native.Mathlib.Nat.{mod-lt, mod-eq_of_lt, div-add-mod', pow-succ', lt_of_lt_of_le, le-min}
use native.Mathlib.Omega.{arith}
use borrow.Author.Tests.{lt-ltb, ltb-true}
use lib.Dec.{ltb, lit<, lit≤}
use Rattle.text.specs.Digits.{digit_of, numeral_from}
use Rattle.text.specs.Words.{only_digits, decimal_of, digits, run_of, step_digit, step_run, decimal_done}
use Rattle.text.specs.declared.words.Run.{Run}
use Rattle.std.specs.Prelude.{Option, Some}
use Rattle.text.proofs.Glyphs.{glyph_back}
use Rattle.text.proofs.Runs.{run_next, decimal_whole}
use Rattle.printer.specs.Put.{decimal_from, decimal_text}
use Rattle.printer.proofs.Decimals.{low_glyph}

-- the word w is read as digits, some of them, of the number n
record Read (w : List ℕ) (n : ℕ) : Type 0 where
  count : ℕ
  some : 0 < count
  is : run_of 10 w ≡ digits count n

-- one digit more
module _ (d : ℕ) (h : d < 10) where
  digit_back : digit_of (48 + d) ≡ d
  digit_back = ap digit_of (sym (low_glyph d h)) ∙ glyph_back d (omega arith)

  step : (c v : ℕ) → v * 10 + d < 2 ^ 64 → step_run 10 (digits c v) (48 + d) ≡ digits (min (c + 1) 17) (v * 10 + d)
  unfolding step_digit
  step c v l = rw (digit_back, lt-ltb d 10 h, lt-ltb (v * 10 + d) (2 ^ 64) l)

  one_more : (w : List ℕ) (c v n : ℕ) → run_of 10 w ≡ digits c v → v * 10 + d ≡ n → n < 2 ^ 64 → Read (w ++ ((48 + d) ∷ [])) n
  one_more w c v n e s l = record {
    count = min (c + 1) 17;
    some = le-min {k = 1} {a = c + 1} {b = 17} (omega arith) (lit≤ tt);
    is = run_next 10 (48 + d) w (lit< tt) ∙ ap (λ (r : Option Run). step_run 10 r (48 + d)) e ∙ step c v (omega arith) ∙ ap (digits (min (c + 1) 17)) s;
  }

  one : Read ((48 + d) ∷ []) d
  unfolding only_digits numeral_from
  one = one_more [] 0 0 d refl (omega arith) (omega arith)

read : (j n : ℕ) → n < 10 ^ suc j → n < 2 ^ 64 → Read (decimal_from j n) n
unfolding decimal_from
read zero n h l = subst (λ (d : ℕ). Read ((48 + d) ∷ []) n) (sym (mod-eq_of_lt {n = n} {m = 10} h)) (one n h)
read (suc j) n h l = go (ltb n 10) refl (read j (n / 10) (omega (arith, pow-succ' 10 (suc j))) (omega arith))
  where
    go : (t : Bool) → ltb n 10 ≡ t → Read (decimal_from j (n / 10)) (n / 10) → Read (cond t ((48 + n) ∷ []) (decimal_from j (n / 10) ++ ((48 + n % 10) ∷ []))) n
    go true e front = one n (ltb-true n 10 e)
    go false e front = one_more (n % 10) (mod-lt n (lit< tt)) (decimal_from j (n / 10)) front.count (n / 10) n front.is (div-add-mod' n 10) l

pub decimal_back : (n : ℕ) → n < 2 ^ 64 → decimal_of (decimal_text n) ≡ Some n
decimal_back n h =
    let r = read 19 n (lt_of_lt_of_le h (lit≤ tt)) h in
    sym (decimal_whole (decimal_text n)) ∙ ap decimal_done r.is ∙ rw (lt-ltb 0 r.count r.some)
