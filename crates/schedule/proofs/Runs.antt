-- The words of a line, by the tests that the code makes. Assumes nothing.
use Rattle.std.proofs.Common.{◌≡◌, ℕ, suc, ◌+◌, ◌-◌, ◌<◌, ◌≤◌, Bool, true, false, cond, not, ◌&&◌, ltb, List, length, get_or, drop, sym, refl, ap, ◌∙◌, add-one, arith, drop_of_length-le, drop-cons, drop-drop, ltb-false, ltb-true, le-ltb, lt-ltb}
use mathlib.Core.Bool.{and-eq-true_iff}
use Rattle.schedule.specs.Words.{is_blank, is_kind, run_in, from_word, word_of, behind_word}
use Rattle.schedule.specs.Places.{goes_on, WordAt}

-- ---- one byte
module _ (blank : Bool) (byte : ℕ) (r : Bool) (e : r ≡ is_blank byte) where
  pub kind_blank : blank ≡ true → r ≡ is_kind blank byte
  kind_blank h = rw h e

  pub kind_other : blank ≡ false → not r ≡ is_kind blank byte
  kind_other h = rw h (ap not e)

-- ---- a run of bytes of a kind
module _ (blank : Bool) (w : List ℕ) (at : ℕ) where
  pub goes_past : length w ≤ at → false ≡ goes_on blank w at
  goes_past h = rw (le-ltb at (length w) h)

  pub goes_here : (r : Bool) → at < length w → r ≡ is_kind blank (get_or w at 0) → r ≡ goes_on blank w at
  goes_here r h e = rw (lt-ltb at (length w) h) e

  run_by : (t : Bool) → at < length w → is_kind blank (get_or w at 0) ≡ t → run_in blank (drop at w) ≡ cond t (suc (run_in blank (drop (suc at) w))) 0
  unfolding run_in
  run_by t h e = rw (drop-cons w at 0 h) (ap (λ (u : Bool). cond u (suc (run_in blank (drop (suc at) w))) 0) e)

  pub run_next : goes_on blank w at ≡ true → (at < length w) × (at + 1 + run_in blank (drop (at + 1) w) ≡ at + run_in blank (drop at w))
  run_next g =
      let b = (and-eq-true_iff (ltb at (length w)) (is_kind blank (get_or w at 0))).0 g in
      let h = ltb-true at (length w) b.0 in
      (h, rw (run_by true h b.1, add-one at) (omega arith))

  pub run_done : goes_on blank w at ≡ false → run_in blank (drop at w) ≡ 0
  unfolding run_in
  run_done g = go (ltb at (length w)) refl g
    where
      go : (t : Bool) → ltb at (length w) ≡ t → (t && is_kind blank (get_or w at 0)) ≡ false → run_in blank (drop at w) ≡ 0
      go true e k = run_by false (ltb-true at (length w) e) k
      go false e k = rw (drop_of_length-le w {i = at} (ltb-false at (length w) e))

-- what holds of a run that began at `from` and has come to `at`
pub record Running (blank : Bool) (w : List ℕ) (from at : ℕ) : Type 0 where
  pub low : from ≤ at
  pub high : at ≤ length w
  pub same : at + run_in blank (drop at w) ≡ from + run_in blank (drop from w)

module _ (blank : Bool) (w : List ℕ) (from : ℕ) where
  pub running_none : from ≤ length w → Running blank w from from
  running_none h = record { low = omega arith; high = h; same = refl }

  module _ (at : ℕ) (r : Running blank w from at) (b : Bool) (e : b ≡ goes_on blank w at) where
    pub running_next : b ≡ true → Running blank w from (at + 1)
    running_next t =
        let n = run_next blank w at (sym e ∙ t) in
        record { low = omega (arith, r.low); high = omega (arith, n.0); same = n.1 ∙ r.same }

    pub running_less : b ≡ true → at < length w
    running_less t = (run_next blank w at (sym e ∙ t)).0

    pub running_done : b ≡ false → (at ≡ from + run_in blank (drop from w)) × ((from ≤ at) × (at ≤ length w))
    running_done f = (omega (arith, run_done blank w at (sym e ∙ f), r.same), (r.low, r.high))

-- ---- a word
pub word_is : (w : List ℕ) (at from to : ℕ) → from ≡ at + run_in true (drop at w) → to ≡ from + run_in false (drop from w) → from ≤ to → to ≤ length w → WordAt w at from to
unfolding from_word word_of behind_word
word_is w at from to e f l h =
    let s : drop from w ≡ from_word (drop at w) = rw e (sym (drop-drop (run_in true (drop at w)) at w)) in
    let k : to - from ≡ run_in false (drop from w) = omega arith in
    record {
      ordered = l;
      within = h;
      starts = s;
      held = rw k (ap word_of s);
      then = rw f (sym (drop-drop (run_in false (drop from w)) from w)) ∙ ap behind_word s;
    }
