-- What a line says, by the tests that the code makes. Assumes nothing.
use Rattle.std.proofs.Common.{◌≡◌, ℕ, ◌-◌, ◌<◌, ◌≤◌, Bool, true, false, cond, eqb, List, [], ◌∷◌, length, get_or, take, drop, sym, refl, ap, ◌∙◌, true≢false, add-zero, arith, length-drop, get_or-drop, eq-eqb, ne_eqb, eqb-true}
use mathlib.Core.Bool.{and-eq-true_iff}
use Rattle.std.specs.Prelude.{Option, Some, None}
use Rattle.schedule.specs.Words.{from_word, word_of, behind_word}
use Rattle.schedule.specs.Places.{WordAt}
use Rattle.schedule.specs.Entries.{same_word, name_of, fields_of, is_over, next_word, entry_of}
use Rattle.schedule.specs.declared.entries.Name.TheVariants as name
use Rattle.schedule.specs.declared.entries.Entry.{Entry}
use Rattle.schedule.specs.declared.entries.Entry.TheVariants as entry

-- ---- names
is_word : (w v : List ℕ) → same_word w v ≡ true → w ≡ v
unfolding same_word
is_word [] [] e = refl
is_word [] (b ∷ v) e = absurd (true≢false (sym e))
is_word (a ∷ w) [] e = absurd (true≢false (sym e))
is_word (a ∷ w) (b ∷ v) e =
    let t = (and-eq-true_iff (eqb a b) (same_word w v)).0 e in
    rw (eqb-true a b t.0, is_word w v t.1)

word_same : (w : List ℕ) → same_word w w ≡ true
unfolding same_word
word_same [] = refl
word_same (a ∷ w) = (and-eq-true_iff (eqb a a) (same_word w w)).1 (eq-eqb a a refl, word_same w)

-- the code's test of a name
abbrev pub Tells : Bool → List ℕ → List ℕ → Type 0
Tells r w v = (r ≡ true → w ≡ v) × (w ≡ v → r ≡ true)

test_true : (r : Bool) (w v : List ℕ) → Tells r w v → r ≡ true → same_word w v ≡ true
test_true r w v t e = rw (t.0 e) (word_same v)

test_false : (r : Bool) (w v : List ℕ) → Tells r w v → r ≡ false → same_word w v ≡ false
test_false r w v t e = go (same_word w v) refl
  where
    go : (b : Bool) → same_word w v ≡ b → b ≡ false
    go false k = refl
    go true k = absurd (true≢false (sym (t.1 (is_word w v k)) ∙ e))

module _ (w : List ℕ) (a : Bool) (ta : Tells a w (97 ∷ 116 ∷ [])) where
  pub name_at : a ≡ true → Some name.At ≡ name_of w
  unfolding name_of
  name_at e = rw (test_true a w _ ta e)

  module _ (na : a ≡ false) (b : Bool) (tb : Tells b w (114 ∷ 97 ∷ 109 ∷ 112 ∷ [])) where
    pub name_ramp : b ≡ true → Some name.Ramp ≡ name_of w
    unfolding name_of
    name_ramp e = rw (test_false a w _ ta na, test_true b w _ tb e)

    module _ (nb : b ≡ false) (c : Bool) (tc : Tells c w (109 ∷ 97 ∷ 115 ∷ 107 ∷ [])) where
      pub name_mask : c ≡ true → Some name.Mask ≡ name_of w
      unfolding name_of
      name_mask e = rw (test_false a w _ ta na, test_false b w _ tb nb, test_true c w _ tc e)

      pub name_none : c ≡ false → None ≡ name_of w
      unfolding name_of
      name_none e = rw (test_false a w _ ta na, test_false b w _ tb nb, test_false c w _ tc e)

-- ---- nothing, or a `#`
module _ (w : List ℕ) (at : ℕ) where
  pub over_past : length w ≤ at → true ≡ is_over (drop at w)
  over_past h = rw (eq-eqb (length (drop at w)) 0 (simp length-drop (omega arith)))

  pub over_here : at < length w → eqb (get_or w at 0) 35 ≡ is_over (drop at w)
  over_here h =
      let n : length (drop at w) ≡ 0 → ⊥ = λ z. omega (arith, length-drop at w) in
      rw (ne_eqb (length (drop at w)) 0 n, get_or-drop at w 0 0, add-zero at)

-- ---- a line, whose words stand at a to b, c to d, e to f, with g behind them
module _ (w : List ℕ) (a b : ℕ) (first : WordAt w 0 a b) (r : Bool) (t : r ≡ is_over (drop a w)) where
  pub line_over : r ≡ true → Some entry.Blank ≡ entry_of w
  unfolding entry_of
  line_over h = rw (ap is_over (sym first.starts) ∙ sym t ∙ h)

  module _ (some : r ≡ false) (c d : ℕ) (second : WordAt w b c d) (e f : ℕ) (third : WordAt w d e f) (g h : ℕ) (fourth : WordAt w f g h) where
    at_2 : drop c w ≡ next_word (from_word w)
    at_2 = second.starts ∙ ap from_word first.then

    at_3 : drop e w ≡ next_word (next_word (from_word w))
    at_3 = third.starts ∙ ap from_word (second.then ∙ ap (λ (v : List ℕ). behind_word (from_word v)) first.then)

    at_4 : drop g w ≡ next_word (next_word (next_word (from_word w)))
    at_4 =
        fourth.starts
        ∙ ap from_word (third.then ∙ ap (λ (v : List ℕ). behind_word (from_word v)) (second.then ∙ ap (λ (v : List ℕ). behind_word (from_word v)) first.then))

    said_by : (n : Bool) → eqb (length (drop g w)) 0 ≡ n
        → cond n (fields_of (word_of (from_word w)) (word_of (next_word (from_word w))) (word_of (next_word (next_word (from_word w))))) None ≡ entry_of w
    unfolding entry_of
    said_by n k = rw (ap is_over (sym first.starts) ∙ sym t ∙ some, ← at_4, k)

    pub line_bad : g < length w → None ≡ entry_of w
    line_bad l = said_by false (ne_eqb (length (drop g w)) 0 (λ z. omega (arith, length-drop g w)))

    pub line_is : length w ≤ g → (x : Option Entry) → x ≡ fields_of (take (b - a) (drop a w)) (take (d - c) (drop c w)) (take (f - e) (drop e w)) → x ≡ entry_of w
    line_is l x k =
        let p : take (d - c) (drop c w) ≡ word_of (next_word (from_word w)) = second.held ∙ ap (λ (v : List ℕ). word_of (from_word v)) first.then in
        let q : take (f - e) (drop e w) ≡ word_of (next_word (next_word (from_word w)))
        = third.held ∙ ap (λ (v : List ℕ). word_of (from_word v)) (second.then ∙ ap (λ (u : List ℕ). behind_word (from_word u)) first.then) in
        k ∙ rw (first.held, p, q) (said_by true (eq-eqb (length (drop g w)) 0 (simp length-drop (omega arith))))
