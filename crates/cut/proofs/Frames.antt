-- What the cut says of each frame of a block, by the limits and by exact positions: the frames before `from` lie before the input, those before `to` before its end, and the next one does not. `kept_order`, `kept_from` and `kept_to` are for a reader. Assumes nothing.
use Rattle.std.proofs.Common.{◌≡◌, ℕ, zero, suc, ◌+◌, ◌*◌, ◌^◌, ◌<◌, ◌≤◌, Bool, true, false, T, ◌⊎◌, ◌↔◌, sym, refl, subst, inl, inr, le_of_suc-le-suc, mul-le-mul_right, mul-lt-mul_of_pos_right, lt_of_not-le, arith, pow_pos, pow-add}
use lib.Ieee.{Float, binary64, low, lt}
use Rattle.exact.specs.Whole.{Whole, Less, AtMost, Below}
use Rattle.exact.specs.Exact.{exact, Number}
use Rattle.path.specs.Path.{path_at}
use Rattle.kinds.proofs.Laws.{points_few}
use Rattle.path.proofs.Path.{path_fits}
use Rattle.path.proofs.Inside.{reach_inside}
use Rattle.state.specs.declared.State.{State}
use Rattle.state.specs.Record.{step_now_of, is_state}
use Rattle.state.proofs.Valid.{valid}
use Rattle.plan.specs.Plan.{increment_of, reach_holds}
use Rattle.cut.specs.Cut.{limit_of, leading, before, kept_of}
use Rattle.cut.specs.Positions.{position_of, edge_of, Leads}
use Rattle.cut.proofs.Front.{leading_none, leading_on, leading_off}
use Rattle.cut.proofs.Exact.{limit_iff, limit_rises}

-- ---- the leading frames: each lies below the limit, the next one does not
module _ (t d i limit : Float) where
  abbrev Low : ℕ → Bool
  Low k = lt (path_at t d i (suc k)).index limit

  -- the next frame is counted, or it ends the count
  abbrev Case : ℕ → ℕ → Type 0
  Case f n = ((Low f ≡ true) × (leading t d i limit f (suc n) ≡ suc (leading t d i limit (suc f) n))) ⊎ ((Low f ≡ false) × (leading t d i limit f (suc n) ≡ 0))

  leading_case : (f n : ℕ) → Case f n
  leading_case f n = go (Low f) refl
    where
      go : (b : Bool) → Low f ≡ b → Case f n
      go true h = inl (h, leading_on t d i limit f n h)
      go false h = inr (h, leading_off t d i limit f n h)

  pub leading_most : (n f : ℕ) → leading t d i limit f n ≤ n
  leading_most zero f = omega (arith, leading_none t d i limit f)
  leading_most (suc n) f = elim (leading_case f n) [ inl h ↦ omega (arith, h.1, leading_most n (suc f)) | inr h ↦ omega (arith, h.1) ]

  -- j is the frame k of those from f on
  pub leading_each : (n f k j : ℕ) → j ≡ f + k → k < leading t d i limit f n → Low j ≡ true
  leading_each zero f k j e l = absurd (omega (arith, leading_none t d i limit f))
  leading_each (suc n) f zero j e l =
      elim (leading_case f n) [ inl h ↦ subst (λ (z : ℕ). Low z ≡ true) (omega arith) h.0 | inr h ↦ absurd (omega (arith, h.1)) ]
  leading_each (suc n) f (suc k) j e l =
      elim (leading_case f n) [ inl h ↦ leading_each n (suc f) k j (omega arith) (omega (arith, h.1)) | inr h ↦ absurd (omega (arith, h.1)) ]

  pub leading_next : (n f j : ℕ) → j ≡ f + leading t d i limit f n → leading t d i limit f n < n → Low j ≡ false
  leading_next zero f j e l = absurd (omega arith)
  leading_next (suc n) f j e l =
      elim (leading_case f n) [
        | inl h ↦ leading_next n (suc f) j (omega (arith, h.1)) (omega (arith, h.1))
        | inr h ↦ subst (λ (z : ℕ). Low z ≡ false) (omega (arith, h.1)) h.0
      ]

-- below a limit that is not lower lie not fewer
leading_rises : (t d i l h : Float) → ((k : ℕ) → Low t d i l k ≡ true → Low t d i h k ≡ true) → (n f : ℕ) → leading t d i l f n ≤ leading t d i h f n
leading_rises t d i l h r zero f = omega (arith, leading_none t d i l f)
leading_rises t d i l h r (suc n) f =
    elim (leading_case t d i l f n) [
      | inl k ↦ omega (arith, k.1, leading_on t d i h f n (r f k.0), leading_rises t d i l h r n (suc f))
      | inr k ↦ omega (arith, k.1)
    ]

-- what is kept is a part of the block, whatever the record
pub kept_order : (s : State) (used total : ℕ) (ended : Bool) → ((kept_of s used ended total).from ≤ (kept_of s used ended total).to) × ((kept_of s used ended total).to ≤ s.output)
kept_order s used total false = (leading_most (step_now_of s) (increment_of s) s.index (limit_of used 0) s.output 0, omega arith)
kept_order s used total true = (
  leading_rises (step_now_of s) (increment_of s) s.index (limit_of used 0) (limit_of used total)
      (λ k h. limit_rises used total (path_at (step_now_of s) (increment_of s) s.index (suc k)).index (path_fits (step_now_of s) (increment_of s) s.index k) h) s.output 0,
  leading_most (step_now_of s) (increment_of s) s.index (limit_of used total) s.output 0,
)

-- ---- in a block that is not refused every index is below 2^17 in size
inside : (O l c : ℕ) (v : Whole) → l ≤ 256 → c ≤ 65536 → 0 < O → AtMost (0, (2 * l + 1) * O) v → Less v ((c + 1) * O, 0) → Below (131072 * O) v
inside O l c v p q k h m =
    let r : 2 * l + 1 < 131072 = omega arith in
    let n : c + 1 ≤ 131072 = omega arith in
    omega (arith, mul-lt-mul_of_pos_right r k, mul-le-mul_right O n)

module _ (s : State) (a : is_state s ≡ true) (b : reach_holds s ≡ true) where
  pub index_inside : (k : ℕ) → k < s.output → (x : Float) → x ≡ (path_at (step_now_of s) (increment_of s) s.index (suc k)).index
      → Number binary64 x × Below (2 ^ (17 + low binary64)) (exact binary64 x)
  index_inside k l x e =
      let z = valid s a in
      let p = reach_inside s.kind s.input (step_now_of s) (increment_of s) s.index s.output b (suc k) (omega arith) l in
      rw e (
        p.number,
        subst (λ (z : ℕ). Below z (exact binary64 (path_at (step_now_of s) (increment_of s) s.index (suc k)).index)) (sym (pow-add 2 17 1074))
            (inside (2 ^ 1074) _ s.input _ (points_few s.kind z.kind_holds_lem) z.input_few (pow_pos 1074) p.at_least p.below),
      )

  frame_iff : (used edge k : ℕ) → k < s.output → T (lt (path_at (step_now_of s) (increment_of s) s.index (suc k)).index (limit_of used edge)) ↔ Less (position_of s used k) (edge_of edge)
  frame_iff used edge k l =
      let x = (path_at (step_now_of s) (increment_of s) s.index (suc k)).index in
      let n = index_inside k l x refl in
      limit_iff used edge x n.0 n.1

  -- the frames before an edge are those whose exact positions lie before it, up to the first that does not
  pub before_leads : (used edge : ℕ) → Leads s used edge (before s used edge)
  before_leads used edge =
      let m = leading_most (step_now_of s) (increment_of s) s.index (limit_of used edge) s.output 0 in
      record {
        each = λ k l.
            (frame_iff used edge k (omega arith)).0
            (subst T (sym (leading_each (step_now_of s) (increment_of s) s.index (limit_of used edge) s.output 0 k k (omega arith) l)) tt);
        next = λ l.
            at_most (position_of s used (before s used edge)) (edge_of edge)
            (λ h. subst T (leading_next (step_now_of s) (increment_of s) s.index (limit_of used edge) s.output 0 (before s used edge) (omega arith) l) ((frame_iff used edge (before s used edge) l).1 h));
        most = m;
      }
    where
      at_most : (v w : Whole) → (Less v w → ⊥) → AtMost w v
      at_most v w n = le_of_suc-le-suc (lt_of_not-le n)

-- ---- in a block that is not refused: from the first frame at or past -2^-20 up to the first one at or past the number of input frames less 2^-20
module _ (s : State) (used total : ℕ) (a : is_state s ≡ true) (b : reach_holds s ≡ true) where
  pub kept_from : (ended : Bool) → Leads s used 0 (kept_of s used ended total).from
  kept_from ended = before_leads s a b used 0

  pub kept_to : Leads s used total (kept_of s used true total).to
  kept_to = before_leads s a b used total
