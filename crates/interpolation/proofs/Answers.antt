-- What the four public functions share: the refusal, and the points as the definition lists them. Assumes nothing.
use Rattle.std.proofs.Common.{◌≡◌, ℕ, true, false, List, [], ◌∷◌, map, ℤ, ◌+ℤ◌, ap, sym, refl, ◌∙◌}
use Prim.Native.Nat.{zero, suc, ◌+◌, ◌<◌}
use native.Mathlib.Nat.{eq-or-lt_of_le, le_of_suc-le-suc, add-zero, add-suc, suc-add}
use native.Mathlib.Numerals.{add-one}
use native.Mathlib.Omega.{arith}
use mathlib.Core.Logic.{⊎_elim}
use lib.IntN.{pos, ◌-ℤ◌}
use lib.ListN.{length, get_or, set, length-set}
use lib.Seq.{get_or-set_same, get_or-set_other}
use lib.Ieee.{Float}
use Rattle.error.specs.Refusals.{given, refused}
use Rattle.error.proofs.Ladder.{pass, stop}
use Rattle.interpolation.specs.Grid.{in_range, point_of, grid_said}
use Rattle.interpolation.specs.Steps.{begin_of, start_q, offsets}
use Rattle.interpolation.specs.declared.Point.{Point}
use Rattle.interpolation.specs.declared.Start.{Start}

-- the points from the start s
abbrev pub pointsFrom : ℕ → Start → List ℤ → List Point
pointsFrom factor s = map (λ o. point_of factor (start_q factor s +ℤ o))

-- lists of points are equal one point after the other
pub points-next : {p q : Point} {ps qs : List Point} → p ≡ q → ps ≡ qs → (p ∷ ps) ≡ (q ∷ qs)
points-next {p} {q} {ps} {qs} h k = ap (λ (p : Point). p ∷ ps) h ∙ ap (λ (ps : List Point). q ∷ ps) k

module _ (least : ℕ) (how : Float → Float) (offsets : List ℤ) (t : Float) (factor : ℕ) where
  pub grid-refused : in_range least t factor ≡ false → refused 11 [] ≡ grid_said least how offsets t factor
  unfolding grid_said
  grid-refused h = stop _ _ _ _ h

  pub grid-given : (s : Start) (ps : List Point) → in_range least t factor ≡ true → s ≡ begin_of how t factor → ps ≡ pointsFrom factor s offsets → given ps ≡ grid_said least how offsets t factor
  unfolding grid_said
  grid-given s ps h p q = pass _ _ _ _ _ h (ap given (q ∙ ap (λ (s : Start). pointsFrom factor s offsets) p))

-- ---- the points of a loop that makes them one after the other
module _ (factor : ℕ) (q : ℤ) (ahead : ℕ) where
  -- number i of them
  abbrev pub place_of : ℕ → Point
  place_of i = point_of factor (q +ℤ (pos (ahead + i) -ℤ pos 1))

  -- the first k of n are made
  pub record Made (n : ℕ) (ps : List Point) (k : ℕ) : Type 0 where
    pub long : length ps ≡ n
    pub each : (i : ℕ) → i < k → (d : Point) → get_or ps i d ≡ place_of i

  pub made_none : (n : ℕ) (ps : List Point) → length ps ≡ n → Made n ps 0
  made_none n ps h = record { long = h; each = λ i l d. absurd (omega (arith, l)) }

  pub made_next : (n : ℕ) (ps : List Point) (k : ℕ) (p : Point) → Made n ps k → k < n → p ≡ place_of k → Made n (set ps k p) (k + 1)
  made_next n ps k p m l e =
      record {
        long = length-set ps k p ∙ m.long;
        each = λ i h d.
            ⊎_elim
            (λ (s : i ≡ k). rw s (get_or-set_same ps k p d (rw m.long l) ∙ e))
            (λ (s : i < k). get_or-set_other ps k i p d (λ z. omega (arith, z, s)) ∙ m.each i s d)
            (eq-or-lt_of_le (le_of_suc-le-suc (rw add-one at h)));
      }

listed : (factor : ℕ) (q : ℤ) (ahead n : ℕ) (ps : List Point) → Made factor q ahead n ps n → ps ≡ map (λ o. point_of factor (q +ℤ o)) (offsets n ahead)
listed factor q ahead zero [] m = refl
listed factor q ahead zero (p ∷ ps) m = absurd (omega (arith, m.long))
listed factor q ahead (suc n) [] m = absurd (omega (arith, m.long))
listed factor q ahead (suc n) (p ∷ ps) m =
    points-next
    (m.each 0 (omega arith) p ∙ ap (λ (j : ℕ). point_of factor (q +ℤ (pos j -ℤ pos 1))) (add-zero ahead))
    (listed factor q (suc ahead) n ps (record {
      long = omega (arith, m.long);
      each = λ i h d. m.each (suc i) (omega (arith, h)) d ∙ ap (λ (j : ℕ). point_of factor (q +ℤ (pos j -ℤ pos 1))) (add-suc ahead i ∙ sym (suc-add ahead i));
    }))

pub made_all : (factor ahead n : ℕ) (s : Start) (ps : List Point) (k : ℕ) → k ≡ n → Made factor (start_q factor s) ahead n ps k → ps ≡ pointsFrom factor s (offsets n ahead)
made_all factor ahead n s ps k e m = listed factor (start_q factor s) ahead n ps (rw e at m)
