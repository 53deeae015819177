-- The index path, and Reach along it. Assumes nothing.
use mathlib.Core.Bool.{Bool, true, ◌&&◌, and-eq-true_iff}
use mathlib.Core.Logic.{⊎_elim}
use mathlib.Core.Path.{◌≡◌, refl, ap}
use Prim.Native.Nat.{ℕ, zero, suc, ◌+◌, ◌≤◌, ◌<◌}
use native.Mathlib.Nat.{eq-or-lt_of_le, le_of_suc-le-suc}
use native.Mathlib.Numerals.{add-one}
use native.Mathlib.Omega.{arith}
use lib.Dec.{T}
use lib.Ieee.{Float, binary64, fits}
use lib.Ieee.Fits.{add-fits}
use Rattle.exact.specs.Doubles.{◌+f◌}
use Rattle.path.specs.declared.Moment.{Moment}
use Rattle.path.specs.Path.{step_index, path_at}
use Rattle.kinds.specs.declared.Kind.{Kind}
use Rattle.path.specs.Sites.{site_of, reached, all_reach}
use Rattle.path.specs.Turns.{all_along}

pub path_fits : (t d i : Float) (f : ℕ) → T (fits binary64 (path_at t d i (suc f)).index)
unfolding path_at
path_fits t d i f = add-fits binary64 (path_at t d i f).index ((path_at t d i f).step +f d)

pub path_next : (t d i : Float) (at at' : Moment) (f : ℕ) → at ≡ path_at t d i f → at' ≡ step_index d at → at' ≡ path_at t d i (f + 1)
unfolding path_at
path_next t d i at at' f e h = rw (add-one, ← e) h

-- ---- a test along the path: what holds after f frames
pub record Along (test : Float → Bool) (t d i : Float) (at : Moment) (all : Bool) (f : ℕ) : Type 0 where
  pub moment : at ≡ path_at t d i f
  pub is : all ≡ all_along test t d i f

module _ (test : Float → Bool) (t d i : Float) where
  pub along_none : Along test t d i (record { index = i; step = t }) true 0
  unfolding path_at all_along
  along_none = record { moment = refl; is = refl }

  pub along_next : (at at' : Moment) (all b : Bool) (f : ℕ) → Along test t d i at all f → at' ≡ step_index d at → b ≡ test at'.index → Along test t d i at' (all && b) (f + 1)
  unfolding all_along
  along_next at at' all b f a e h =
      let m = path_next t d i at at' f a.moment e in
      let q : at' ≡ path_at t d i (suc f) = rw add-one at m in
      record { moment = m; is = rw (h, a.is, q, add-one) }

  pub along_done : (at : Moment) (all : Bool) (f n : ℕ) → Along test t d i at all f → f ≡ n → (all ≡ all_along test t d i n) × (at.index ≡ (path_at t d i n).index)
  along_done at all f n a e = rw (← e) (a.is, ap (λ (m : Moment). m.index) a.moment)

  -- a weaker test is passed too
  pub along_weaker : (weaker : Float → Bool) → ((x : Float) → T (fits binary64 x) → test x ≡ true → weaker x ≡ true) → (n : ℕ) → all_along test t d i n ≡ true → all_along weaker t d i n ≡ true
  unfolding all_along
  along_weaker weaker w zero h = refl
  along_weaker weaker w (suc n) h =
      let x = (path_at t d i (suc n)).index in
      let b = (and-eq-true_iff (all_along test t d i n) (test x)).0 h in
      rw (along_weaker weaker w n b.0, w x (path_fits t d i n) b.1)

-- Reach is such a test
pub reach_along : (kind : Kind) (needed : ℕ) (t d i : Float) (n : ℕ) → all_along (λ x. reached (site_of kind needed x)) t d i n ≡ all_reach kind needed t d i n
unfolding all_along all_reach
reach_along kind needed t d i zero = refl
reach_along kind needed t d i (suc n) = ap (λ (b : Bool). b && reached (site_of kind needed (path_at t d i (suc n)).index)) (reach_along kind needed t d i n)

-- ---- Reach says of every frame that it is in reach, and no less
module _ (kind : Kind) (needed : ℕ) (t d i : Float) where
  -- the samples of frame f, the first frame being frame 1, are in reach
  abbrev pub InReach : ℕ → Type 0
  InReach f = reached (site_of kind needed (path_at t d i f).index) ≡ true

  pub reach_each : (n : ℕ) → all_reach kind needed t d i n ≡ true → (f : ℕ) → 1 ≤ f → f ≤ n → InReach f
  unfolding all_reach
  reach_each zero h f l k = absurd (omega arith)
  reach_each (suc n) h f l k =
      let b = (and-eq-true_iff (all_reach kind needed t d i n) (reached (site_of kind needed (path_at t d i (suc n)).index))).0 h in
      ⊎_elim (λ (e : f ≡ suc n). rw e b.1) (λ (e : f < suc n). reach_each n b.0 f l (le_of_suc-le-suc e)) (eq-or-lt_of_le k)

  pub reach_all : (n : ℕ) → ((f : ℕ) → 1 ≤ f → f ≤ n → InReach f) → all_reach kind needed t d i n ≡ true
  unfolding all_reach
  reach_all zero h = refl
  reach_all (suc n) h = rw (reach_all n (λ f l k. h f l (omega arith)), h (suc n) (omega arith) (omega arith))
