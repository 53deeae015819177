-- What a byte of a form stands for, case by case. Assumes nothing.
use mathlib.Core.Bool.{Bool, true, false, ◌||◌}
use mathlib.Core.List.{List, [], ◌∷◌}
use mathlib.Core.Path.{◌≡◌, refl, sym, ap, ◌∙◌}
use Prim.Native.Nat.{ℕ, zero, suc, ◌≤◌}
use native.Mathlib.Omega.{arith}
use borrow.Author.Tests.{eq-eqb, ne_eqb}
use lib.Dec.{eqb}
use lib.Ieee.{Float, binary64, of_bits}
use lib.ListN.{length, get_or}
use Rattle.printer.specs.Put.{put_in, place_after, decimal_text}
use Rattle.values.specs.Texts.{value_text}
use Rattle.forms.specs.Forms.{mark_text, taken_by}

pub mark_number : (m n : ℕ) → m ≡ 35 → mark_text m n ≡ decimal_text n
unfolding mark_text
mark_number m n h = rw (eq-eqb m 35 h) refl

pub mark_float : (m n : ℕ) (x : Float) → (m ≡ 35 → ⊥) → m ≡ 36 → x ≡ of_bits binary64 n → mark_text m n ≡ value_text x
unfolding mark_text
mark_float m n x h k e = rw (ne_eqb m 35 h, eq-eqb m 36 k, e) refl

pub mark_other : (m n : ℕ) → (m ≡ 35 → ⊥) → (m ≡ 36 → ⊥) → mark_text m n ≡ m ∷ []
unfolding mark_text
mark_other m n h k = rw (ne_eqb m 35 h, ne_eqb m 36 k) refl

-- how many numbers a byte takes, by the code's test
pub takes_one : (m : ℕ) (b : Bool) → b ≡ (eqb m 35 || eqb m 36) → b ≡ true → 1 ≡ taken_by m
takes_one m b e h = rw (sym e ∙ h) refl

pub takes_none : (m : ℕ) (b : Bool) → b ≡ (eqb m 35 || eqb m 36) → b ≡ false → 0 ≡ taken_by m
takes_none m b e h = rw (sym e ∙ h) refl

-- a number that is not there
pub past : (w : List ℕ) (k : ℕ) → length w ≤ k → 0 ≡ get_or w k 0
past [] k h = refl
past (x ∷ w) zero h = absurd (omega (arith, h))
past (x ∷ w) (suc k) h = past w k (omega (arith, h))

-- a text that was put is what the byte stands for
pub as_marked : (d : List ℕ) (at : ℕ) (w v : List ℕ) (r : ℕ) (y : List ℕ) → v ≡ w → (r ≡ place_after (length d) at (length w)) × (y ≡ put_in d at w)
    → (r ≡ place_after (length d) at (length v)) × (y ≡ put_in d at v)
as_marked d at w v r y e h = (h.0 ∙ ap (λ (z : List ℕ). place_after (length d) at (length z)) (sym e), h.1 ∙ ap (put_in d at) (sym e))
