-- What holds after some bytes of a form: their texts stand in the line. Assumes nothing.
use mathlib.Core.Bool.{Bool, true, false, cond, ◌||◌}
use mathlib.Core.List.{List}
use mathlib.Core.Path.{◌≡◌, refl, ap, ◌∙◌}
use Prim.Native.Nat.{ℕ, ◌+◌, ◌≤◌}
use native.Mathlib.Numerals.{unary_clauses}
use native.Mathlib.Omega.{arith}
use lib.Dec.{eqb}
use lib.ListN.{length, get_or}
use Rattle.printer.specs.Put.{put_in, place_after}
use Rattle.forms.specs.Forms.{mark_text, taken_by, taken_to, place_to, line_to}

pub record Formed (line₀ form numbers : List ℕ) (i at k : ℕ) (line : List ℕ) : Type 0 where
  pub place : at ≡ place_to (length line₀) form numbers i
  pub taken : k ≡ taken_to form i
  pub few : k ≤ i
  pub text : line ≡ line_to line₀ form numbers i
  pub long : length line ≡ length line₀

pub formed_none : (line₀ form numbers : List ℕ) → Formed line₀ form numbers 0 0 0 line₀
unfolding place_to taken_to line_to
formed_none line₀ form numbers = record { place = refl; taken = refl; few = omega arith; text = refl; long = refl }

taken_few : (m : ℕ) → taken_by m ≤ 1
taken_few m = go (eqb m 35 || eqb m 36)
  where
    go : (b : Bool) → cond b 1 0 ≤ 1
    go true = omega arith
    go false = omega arith

pub few_of : (m t : ℕ) → t ≡ taken_by m → t ≤ 1
few_of m t e = omega (arith, taken_few m, e)

pub formed_next : (line₀ form numbers : List ℕ) (i at k : ℕ) (line : List ℕ) (m n : ℕ) (at' t : ℕ) (line' : List ℕ)
    → Formed line₀ form numbers i at k line → m ≡ get_or form i 0 → n ≡ get_or numbers k 0
    → at' ≡ place_after (length line) at (length (mark_text m n)) → line' ≡ put_in line at (mark_text m n) → length line' ≡ length line → t ≡ taken_by m
    → Formed line₀ form numbers (i + 1) at' (k + t) line'
unfolding place_to taken_to line_to
formed_next line₀ form numbers i at k line m n at' t line' f a b p l long e =
    let n' : n ≡ get_or numbers (taken_to form i) 0 = b ∙ ap (λ (z : ℕ). get_or numbers z 0) f.taken in
    let w : mark_text m n ≡ mark_text (get_or form i 0) (get_or numbers (taken_to form i) 0) = ap (λ (z : ℕ). mark_text z n) a ∙ ap (mark_text (get_or form i 0)) n' in
    record {
      place = simp unary_clauses (p ∙ ap (λ (z : ℕ). place_after z at (length (mark_text m n))) f.long ∙ ap (λ (z : ℕ). place_after (length line₀) z (length (mark_text m n))) f.place ∙ ap (λ (z : List ℕ). place_after (length line₀) (place_to (length line₀) form numbers i) (length z)) w);
      taken = simp unary_clauses (ap (λ (z : ℕ). z + t) f.taken ∙ ap (λ (z : ℕ). taken_to form i + z) (e ∙ ap taken_by a));
      few = omega (arith, f.few, taken_few m, e);
      text = simp unary_clauses (l ∙ ap (λ (z : List ℕ). put_in z at (mark_text m n)) f.text ∙ ap (λ (z : ℕ). put_in (line_to line₀ form numbers i) z (mark_text m n)) f.place ∙ ap (put_in (line_to line₀ form numbers i) (place_to (length line₀) form numbers i)) w);
      long = long ∙ f.long;
    }

pub formed_done : (line₀ form numbers : List ℕ) (i at k : ℕ) (line : List ℕ) (n : ℕ) → Formed line₀ form numbers i at k line → i ≡ n
    → (at ≡ place_to (length line₀) form numbers n) × (line ≡ line_to line₀ form numbers n)
formed_done line₀ form numbers i at k line n f e =
    (f.place ∙ ap (place_to (length line₀) form numbers) e, f.text ∙ ap (line_to line₀ form numbers) e)
