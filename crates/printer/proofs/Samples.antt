-- Areas as text: sixteen bytes a sample, so that each turn of the loop puts one sample more. Assumes nothing.
use mathlib.Core.List.{List, [], ◌∷◌, ◌++◌, append_assoc}
use mathlib.Core.Path.{◌≡◌, refl, sym, ap, ◌∙◌, subst}
use Prim.Native.Nat.{ℕ, zero, suc, ◌+◌, ◌*◌, ◌<◌, ◌≤◌}
use native.Mathlib.Omega.{arith}
use lib.Ieee.{Float, binary64, to_bits}
use lib.ListN.{length, get_or, take, length-append}
use lib.Seq.{paste, take-append-le, take-append-add}
use Rattle.text.specs.Digits.{hex_digits}
use Rattle.text.specs.Areas.{samples_text, area_text}
use Rattle.text.proofs.Glyphs.{length_digits}
use Rattle.printer.proofs.Pastes.{Pasted, pasted_part}
use Rattle.printer.proofs.Texts.{TextPut, same_text, fitted, kept_out}

-- ---- one sample
abbrev pub sample_text : Float → List ℕ
sample_text x = hex_digits (to_bits binary64 x)

sixteen : (x : Float) → length (sample_text x) ≡ 16
sixteen x = length_digits 16 (to_bits binary64 x)

module _ (d : List ℕ) (at : ℕ) (x : Float) where
  pub bits_fitted : (y : List ℕ) (b : ℕ) → b ≡ to_bits binary64 x → at + 16 ≤ length d → y ≡ paste d at (hex_digits b) 16 → TextPut d at (sample_text x) (at + 16) y
  bits_fitted y b e h p = fitted d at (sample_text x) 16 (sym (sixteen x)) y h (p ∙ ap (λ (n : ℕ). paste d at (hex_digits n) 16) e)

  pub bits_kept_out : length d < at + 16 → TextPut d at (sample_text x) (length d) d
  bits_kept_out h = kept_out d at (sample_text x) 16 (sym (sixteen x)) h

-- ---- samples in a row
pub length_samples : (xs : List Float) → 16 * length xs ≡ length (samples_text xs)
unfolding samples_text
length_samples [] = refl
length_samples (x ∷ xs) = omega (arith, length-append (sample_text x) (samples_text xs), sixteen x, length_samples xs)

-- the text of one sample more
one_more : (xs : List Float) (k : ℕ) (z : Float) → k < length xs → take (16 * k) (samples_text xs) ++ take 16 (sample_text (get_or xs k z)) ≡ take (16 * k + 16) (samples_text xs)
unfolding samples_text
one_more [] k z l = absurd (omega arith)
one_more (x ∷ xs) zero z l = sym (take-append-le 16 (sample_text x) (samples_text xs) (omega (arith, sixteen x)))
one_more (x ∷ xs) (suc k) z l =
    let t = samples_text xs in
    let u = take 16 (sample_text (get_or xs k z)) in
    let behind : (n : ℕ) → take (16 + n) (sample_text x ++ t) ≡ sample_text x ++ take n t = λ n. sym (ap (λ (i : ℕ). take (i + n) (sample_text x ++ t)) (sixteen x)) ∙ take-append-add (sample_text x) t n in
    let first : 16 * suc k ≡ 16 + 16 * k = omega arith in
    let last : 16 + (16 * k + 16) ≡ 16 * suc k + 16 = omega arith in
    ap (λ (n : ℕ). take n (sample_text x ++ t) ++ u) first ∙ ap (λ (q : List ℕ). q ++ u) (behind (16 * k)) ∙ append_assoc (sample_text x) (take (16 * k) t) u
    ∙ ap (λ (q : List ℕ). sample_text x ++ q) (one_more xs k z (omega arith)) ∙ sym (behind (16 * k + 16)) ∙ ap (λ (n : ℕ). take n (sample_text x ++ t)) last

pub sample_next : (d : List ℕ) (at : ℕ) (xs : List Float) (x y : List ℕ) (k b : ℕ) (z : Float) → Pasted d at (samples_text xs) x (16 * k) → at + 16 * length xs ≤ length d → k < length xs
    → b ≡ to_bits binary64 (get_or xs k z) → y ≡ paste x (at + 16 * k) (hex_digits b) 16 → Pasted d at (samples_text xs) y (16 * (k + 1))
sample_next d at xs x y k b z p h l e f =
    let s = length_samples xs in
    let n : 16 * k + 16 ≡ 16 * (k + 1) = omega arith in
    subst (λ (i : ℕ). Pasted d at (samples_text xs) y i) n
    (pasted_part d at (samples_text xs) x (hex_digits b) y (16 * k) 16 p (omega arith) (omega arith) (omega (arith, length_digits 16 b))
    (ap (λ (i : ℕ). take (16 * k) (samples_text xs) ++ take 16 (hex_digits i)) e ∙ one_more xs k z l) f)

-- ---- an area
pub area_none : (xs : List Float) → length xs ≡ 0 → 45 ∷ [] ≡ area_text xs
unfolding area_text
area_none [] e = refl
area_none (x ∷ xs) e = absurd (omega arith)

area_some : (xs : List Float) → 0 < length xs → samples_text xs ≡ area_text xs
unfolding area_text
area_some [] h = absurd (omega arith)
area_some (x ∷ xs) h = refl

module _ (d : List ℕ) (at : ℕ) (xs : List Float) (s : 0 < length xs) where
  pub area_fitted : (y : List ℕ) → at + 16 * length xs ≤ length d → y ≡ paste d at (samples_text xs) (16 * length xs) → TextPut d at (area_text xs) (at + 16 * length xs) y
  area_fitted y h p = same_text d at _ _ _ y (area_some xs s) (fitted d at (samples_text xs) (16 * length xs) (length_samples xs) y h p)

  pub area_kept_out : length d < at + 16 * length xs → TextPut d at (area_text xs) (length d) d
  area_kept_out h = same_text d at _ _ _ d (area_some xs s) (kept_out d at (samples_text xs) (16 * length xs) (length_samples xs) h)
