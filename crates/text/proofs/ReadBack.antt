-- An area that was put is read back: the text of an area, read byte by byte, gives its samples, as many as it has, and the rest of the area as it was. Assumes nothing.
use mathlib.Core.List.{List, [], ◌∷◌, ◌++◌}
use mathlib.Core.Path.{◌≡◌, refl, sym, ap, ◌∙◌, subst}
use Prim.Native.Nat.{ℕ, zero, suc, ◌+◌, ◌*◌, ◌/◌, ◌%◌, ◌^◌, ◌<◌, ◌≤◌}
use native.Mathlib.Nat.{mod-lt, mod-one, mul_assoc, add-mul, pow-succ', mod-eq_of_lt, le_trans, mul-le-mul_right, mul-le-mul_left, le_of_eq, min-eq_left}
use native.Mathlib.Numerals.{add-one}
use native.Mathlib.Omega.{arith}
use borrow.Author.Tests.{lt-ltb, eq-eqb, ne_eqb}
use lib.Dec.{T, lit<, lit≤}
use lib.Ieee.{Float, binary64, fits, to_bits, of_bits}
use lib.Ieee.Bits.{of_bits-to_bits, to_bits-lt}
use lib.ListN.{length, drop, set, length-set}
use lib.Seq.{sets, sets-eq}
use Rattle.text.specs.Digits.{glyph_of, digit_of, digits_of, hex_digits}
use Rattle.text.specs.Words.{digits, no_digits, step_digit, step_run}
use Rattle.text.specs.Areas.{area_next, area_kept, area_done, Held, held_step, read_all, samples_text, area_text}
use Rattle.text.specs.declared.words.Run.{Run}
use Rattle.std.specs.Prelude.{Option, Some}
use Rattle.text.specs.declared.areas.Area.{Area}
use Rattle.text.specs.declared.areas.Area.TheVariants as area
use Rattle.text.proofs.Glyphs.{glyph_back, positive, joined}

abbrev held : Area → List Float → Held
held a xs = record { read = a; samples = xs }

read_append : (h : Held) (u w : List ℕ) → read_all h (u ++ w) ≡ read_all (read_all h u) w
unfolding read_all
read_append h [] w = refl
read_append h (c ∷ u) w = read_append (held_step h c) u w

-- ---- one digit
digit_run : (c v d : ℕ) → c < 16 → d < 16 → v * 16 + d < 2 ^ 64 → step_run 16 (digits c v) (glyph_of d) ≡ digits (c + 1) (v * 16 + d)
unfolding step_digit
digit_run c v d h l s =
    rw (glyph_back d l, lt-ltb d 16 l, lt-ltb (v * 16 + d) (2 ^ 64) s, min-eq_left {n = c + 1} {m = 17} (omega arith))

step_more : (k c v d : ℕ) (ys : List Float) → c < 16 → d < 16 → v * 16 + d < 2 ^ 64 → (c + 1 ≡ 16 → ⊥)
    → held_step (held (area.Samples k (digits c v)) ys) (glyph_of d) ≡ held (area.Samples k (digits (c + 1) (v * 16 + d))) ys
step_more k c v d ys h l s n =
    let e = digit_run c v d h l s in
    ap (λ (r : Option Run). held (area_next (length ys) k r) (area_kept ys k r)) e ∙ rw (ne_eqb (c + 1) 16 n)

step_last : (k c v d : ℕ) (ys : List Float) → d < 16 → v * 16 + d < 2 ^ 64 → c + 1 ≡ 16 → k < length ys
    → held_step (held (area.Samples k (digits c v)) ys) (glyph_of d) ≡ held (area.Samples (k + 1) no_digits) (set ys k (of_bits binary64 (v * 16 + d)))
step_last k c v d ys l s n h =
    let e = digit_run c v d (omega arith) l s in
    ap (λ (r : Option Run). held (area_next (length ys) k r) (area_kept ys k r)) e ∙ rw (eq-eqb (c + 1) 16 n, lt-ltb k (length ys) h)

-- ---- one sample: j digits are left of it
below : (v d p : ℕ) → d < 16 → 0 < p → (v + 1) * (16 * p) ≤ 2 ^ 64 → ((v * 16 + d + 1) * p ≤ 2 ^ 64) × (v * 16 + d < 2 ^ 64)
below v d p l q h =
    let m : (v * 16 + d + 1) * p ≤ (v + 1) * 16 * p = mul-le-mul_right p (le_trans (omega arith) (le_of_eq (sym (add-mul v 1 16)))) in
    let a : (v + 1) * 16 * p ≡ (v + 1) * (16 * p) = mul_assoc (v + 1) 16 p in
    let o : (v * 16 + d + 1) * 1 ≤ (v * 16 + d + 1) * p = mul-le-mul_left (v * 16 + d + 1) q in
    (omega arith, omega arith)

one_sample : (j k c v n : ℕ) (ys : List Float) → c + suc j ≡ 16 → (v + 1) * 16 ^ suc j ≤ 2 ^ 64 → k < length ys
    → read_all (held (area.Samples k (digits c v)) ys) (digits_of (suc j) n) ≡ held (area.Samples (k + 1) no_digits) (set ys k (of_bits binary64 (v * 16 ^ suc j + n % 16 ^ suc j)))
unfolding read_all digits_of
one_sample zero k c v n ys e b h =
    let d = n / 16 ^ 0 % 16 in
    let l : d < 16 = mod-lt (n / 16 ^ 0) (lit< tt) in
    let s = below v d 1 l (lit< tt) b in
    step_last k c v d ys l s.1 (omega arith) h
    ∙ ap (λ (x : ℕ). held (area.Samples (k + 1) no_digits) (set ys k (of_bits binary64 x))) (sym (ap (λ (r : ℕ). (v * 16 + d) * 1 + r) (mod-one n) ∙ omega arith) ∙ joined v n 0)
one_sample (suc j) k c v n ys e b h =
    let d = n / 16 ^ suc j % 16 in
    let l : d < 16 = mod-lt (n / 16 ^ suc j) (lit< tt) in
    let s = below v d (16 ^ suc j) l (positive (suc j)) (subst (λ (p : ℕ). (v + 1) * p ≤ 2 ^ 64) (pow-succ' 16 (suc j)) b) in
    ap (λ (x : Held). read_all x (digits_of (suc j) n)) (step_more k c v d ys (omega arith) l s.1 (λ q. omega arith))
    ∙ one_sample j k (c + 1) (v * 16 + d) n ys (omega arith) s.0 h
    ∙ ap (λ (x : ℕ). held (area.Samples (k + 1) no_digits) (set ys k (of_bits binary64 x))) (joined v n (suc j))

-- ---- all samples, of which each is a double
unfoldable pub AllFit : List Float → Type 0
AllFit [] = Unit {0}
AllFit (x ∷ xs) = T (fits binary64 x) × AllFit xs

sample : (k : ℕ) (x : Float) (ys : List Float) → T (fits binary64 x) → k < length ys
    → read_all (held (area.Samples k no_digits) ys) (hex_digits (to_bits binary64 x)) ≡ held (area.Samples (k + 1) no_digits) (set ys k x)
sample k x ys f h =
    one_sample 15 k 0 0 (to_bits binary64 x) ys refl (lit≤ tt) h
    ∙ ap (λ (y : Float). held (area.Samples (k + 1) no_digits) (set ys k y))
    (ap (of_bits binary64) (ap (λ (r : ℕ). 0 * 16 ^ 16 + r) (mod-eq_of_lt {n = to_bits binary64 x} {m = 16 ^ 16} (to_bits-lt binary64 x f)) ∙ omega arith) ∙ of_bits-to_bits binary64 x f)

samples_back : (xs ys : List Float) (k : ℕ) → AllFit xs → k + length xs ≤ length ys
    → read_all (held (area.Samples k no_digits) ys) (samples_text xs) ≡ held (area.Samples (k + length xs) no_digits) (sets ys k xs)
unfolding read_all samples_text AllFit
samples_back [] ys k f h =
    let e : k ≡ k + 0 = omega arith in
    ap (λ (j : ℕ). held (area.Samples j no_digits) ys) e
samples_back (x ∷ xs) ys k f h =
    let e : k + 1 + length xs ≡ k + suc (length xs) = omega arith in
    read_append (held (area.Samples k no_digits) ys) (hex_digits (to_bits binary64 x)) (samples_text xs)
    ∙ ap (λ (s : Held). read_all s (samples_text xs)) (sample k x ys f.0 (omega arith))
    ∙ samples_back xs (set ys k x) (k + 1) f.1 (simp length-set (omega arith))
    ∙ ap (λ (j : ℕ). held (area.Samples j no_digits) (sets (set ys k x) (k + 1) xs)) e
    ∙ ap (λ (j : ℕ). held (area.Samples (k + suc (length xs)) no_digits) (sets (set ys k x) j xs)) (add-one k)

-- the first byte of a sample is no `-`
no_dash : (d : ℕ) → d < 16 → glyph_of d ≡ 45 → ⊥
no_dash d l e = absurd (below_dash (glyph_back d l))
  where
    below_dash : digit_of (glyph_of d) ≡ d → ⊥
    below_dash q = let z : digit_of 45 ≡ d = ap digit_of (sym e) ∙ q in omega arith

starts : (d : ℕ) (ys : List Float) → d < 16 → held_step (held area.Start ys) (glyph_of d) ≡ held_step (held (area.Samples 0 no_digits) ys) (glyph_of d)
starts d ys l = rw (ne_eqb (glyph_of d) 45 (no_dash d l))

started : (x : Float) (w : List ℕ) (ys : List Float) → read_all (held area.Start ys) (hex_digits (to_bits binary64 x) ++ w) ≡ read_all (held (area.Samples 0 no_digits) ys) (hex_digits (to_bits binary64 x) ++ w)
unfolding read_all digits_of
started x w ys =
    ap (λ (s : Held). read_all s (digits_of 15 (to_bits binary64 x) ++ w)) (starts (to_bits binary64 x / 16 ^ 15 % 16) ys (mod-lt (to_bits binary64 x / 16 ^ 15) (lit< tt)))

-- the text of an area, read into an area that has room for it
abbrev pub read_in : List Float → List Float → Held
read_in xs ys = read_all (held area.Start ys) (area_text xs)

empty_back : (ys : List Float) → read_in [] ys ≡ held area.Dash ys
unfolding read_all area_text
empty_back ys = refl

some_back : (x : Float) (xs ys : List Float) → AllFit (x ∷ xs) → suc (length xs) ≤ length ys
    → read_in (x ∷ xs) ys ≡ held (area.Samples (0 + suc (length xs)) no_digits) (sets ys 0 (x ∷ xs))
unfolding area_text samples_text
some_back x xs ys f h = started x (samples_text xs) ys ∙ samples_back (x ∷ xs) ys 0 f (omega arith)

pub area_back : (xs ys : List Float) → AllFit xs → length xs ≤ length ys
    → (area_done (read_in xs ys).read ≡ Some (length xs)) × ((read_in xs ys).samples ≡ xs ++ drop (length xs) ys)
area_back [] ys f h = (ap (λ (s : Held). area_done s.read) (empty_back ys), ap (λ (s : Held). s.samples) (empty_back ys))
area_back (x ∷ xs) ys f h =
    let e = some_back x xs ys f h in
    let z : 0 + suc (length xs) ≡ suc (length xs) = omega arith in
    (ap (λ (s : Held). area_done s.read) e ∙ ap Some z, ap (λ (s : Held). s.samples) e ∙ sets-eq (x ∷ xs) ys 0 (omega arith) ∙ ap (λ (j : ℕ). (x ∷ xs) ++ drop j ys) z)
