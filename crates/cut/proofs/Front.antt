-- The leading frames: the loop that counts them, and what is known of each frame. Assumes nothing.
use Rattle.std.proofs.Common.{◌≡◌, ℕ, zero, suc, ◌+◌, ◌<◌, ◌≤◌, Bool, true, false, not, sym, refl, ap, ◌∙◌, subst, true≢false, zero-add, add-one, arith}
use mathlib.Core.Bool.{false≢true}
use native.Mathlib.Nat.{le_dest}
use lib.Ieee.{Float, lt}
use Rattle.path.specs.declared.Moment.{Moment}
use Rattle.path.specs.Path.{step_index, path_at}
use Rattle.path.proofs.Path.{path_next}
use Rattle.state.specs.declared.State.{State}
use Rattle.state.specs.Record.{step_now_of}
use Rattle.plan.specs.Plan.{increment_of}
use Rattle.cut.specs.Cut.{limit_of, leading, before, kept_of}

module _ (t d i limit : Float) where
  -- one frame more is counted where its index is below the limit, and none after one whose is not
  pub leading_on : (f n : ℕ) → lt (path_at t d i (suc f)).index limit ≡ true → leading t d i limit f (suc n) ≡ suc (leading t d i limit (suc f) n)
  unfolding leading
  leading_on f n h = rw h

  pub leading_off : (f n : ℕ) → lt (path_at t d i (suc f)).index limit ≡ false → leading t d i limit f (suc n) ≡ 0
  unfolding leading
  leading_off f n h = rw h

  pub leading_none : (f : ℕ) → leading t d i limit f 0 ≡ 0
  unfolding leading
  leading_none f = refl

-- ---- the loop: `at` is frame k's moment, and the frames before it are counted
pub record Led (t d i limit : Float) (n : ℕ) (at : Moment) (k : ℕ) : Type 0 where
  pub moment : at ≡ path_at t d i (suc k)
  pub left : (m : ℕ) → k + m ≡ n → leading t d i limit 0 n ≡ k + leading t d i limit k m

module _ (t d i limit : Float) (n : ℕ) where
  pub led_none : (at : Moment) → at ≡ step_index d (record { index = i; step = t }) → Led t d i limit n at 0
  unfolding path_at
  led_none at e = record { moment = e; left = λ m h. ap (leading t d i limit 0) (omega arith) ∙ sym (zero-add (leading t d i limit 0 m)) }

  pub led_next : (at at' : Moment) (k : ℕ) → Led t d i limit n at k → lt at.index limit ≡ true → at' ≡ step_index d at → Led t d i limit n at' (k + 1)
  led_next at at' k l h e =
      record {
        moment = subst (λ (z : ℕ). at' ≡ path_at t d i z) (omega arith) (path_next t d i at at' (suc k) l.moment e);
        left = λ m s. l.left (suc m) (omega arith) ∙ ap (λ (z : ℕ). k + z) (leading_on t d i limit k m (ap (λ (a : Moment). lt a.index limit) (sym l.moment) ∙ h)) ∙ go m;
      }
    where
      go : (m : ℕ) → k + suc (leading t d i limit (suc k) m) ≡ k + 1 + leading t d i limit (k + 1) m
      go m = rw add-one (omega arith)

  -- the first frame that is not below the limit, or none such
  pub led_over : (at : Moment) (k : ℕ) → Led t d i limit n at k → k < n → lt at.index limit ≡ false
      → (k ≡ leading t d i limit 0 n) × (at.index ≡ (path_at t d i (suc k)).index)
  led_over at k l h o = (go (le_dest h).0 (le_dest h).1, ap (λ (a : Moment). a.index) l.moment)
    where
      go : (m : ℕ) → suc k + m ≡ n → k ≡ leading t d i limit 0 n
      go m e = omega (arith, l.left (suc m) (omega arith), leading_off t d i limit k m (ap (λ (a : Moment). lt a.index limit) (sym l.moment) ∙ o))

  pub led_all : (at : Moment) (k : ℕ) → Led t d i limit n at k → k ≡ n → (n ≡ leading t d i limit 0 n) × (at.index ≡ (path_at t d i (suc n)).index)
  led_all at k l e = (
    omega (arith, l.left 0 (omega arith), leading_none t d i limit k),
    subst (λ (z : ℕ). at.index ≡ (path_at t d i (suc z)).index) e (ap (λ (a : Moment). a.index) l.moment),
  )

-- ---- the outcome put together
module _ (s : State) (used total : ℕ) (t d x : Float) (a : t ≡ step_now_of s) (b : d ≡ increment_of s) where
  counted : (edge n : ℕ) (most : Float) → most ≡ limit_of used edge → n ≡ leading t d s.index most 0 s.output → n ≡ before s used edge
  counted edge n most e h = rw (h, e, a, b)

  indexed : (n : ℕ) → x ≡ (path_at t d s.index (suc n)).index → n ≡ before s used 0 → x ≡ (kept_of s used true total).index
  indexed n h e = rw (h, ← e, a, b)

  module _ (from : ℕ) (low : Float) (e : low ≡ limit_of used 0) (h : from ≡ leading t d s.index low 0 s.output) (k : x ≡ (path_at t d s.index (suc from)).index) where
    pub kept_open : (ended : Bool) → not ended ≡ true → record { from = from; to = s.output; index = x } ≡ kept_of s used ended total
    kept_open true g = absurd (false≢true g)
    kept_open false g =
        let f = counted 0 from low e h in
        ap (λ (y : Float). record { from = from; to = s.output; index = y }) (indexed from k f)
        ∙ ap (λ (n : ℕ). record { from = n; to = s.output; index = (kept_of s used true total).index }) f

    pub kept_whole : (ended : Bool) (to : ℕ) (high : Float) → not ended ≡ false → high ≡ limit_of used total → to ≡ leading t d s.index high 0 s.output
        → record { from = from; to = to; index = x } ≡ kept_of s used ended total
    kept_whole false to high g i j = absurd (true≢false g)
    kept_whole true to high g i j =
        let f = counted 0 from low e h in
        ap (λ (y : Float). record { from = from; to = to; index = y }) (indexed from k f)
        ∙ ap (λ (n : ℕ). record { from = n; to = to; index = (kept_of s used true total).index }) f
        ∙ ap (λ (n : ℕ). record { from = before s used 0; to = n; index = (kept_of s used true total).index }) (counted total to high i j)
