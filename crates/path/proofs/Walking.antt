-- A walk along the path: what holds after f frames. Assumes nothing.
use mathlib.Core.Bool.{Bool, true, ◌&&◌, false≢true, and-eq-true_iff}
use mathlib.Core.List.{List}
use mathlib.Core.Path.{◌≡◌, refl, sym, ap, ◌∙◌}
use Prim.Native.Nat.{ℕ, zero, suc, ◌+◌, ◌≤◌, ◌<◌}
use native.Mathlib.Numerals.{add-one}
use native.Mathlib.Omega.{arith}
use lib.Ieee.{Float, nan}
use lib.ListN.{length, set}
use lib.Seq.{get_or-set_same, get_or-set_other}
use Rattle.path.specs.declared.Moment.{Moment}
use Rattle.path.specs.declared.Place.{Place}
use Rattle.std.proofs.Common.{Option, Some, None}
use Rattle.path.specs.Path.{step_index, path_at}
use Rattle.path.specs.Places.{place_of, is_at}
use Rattle.path.specs.Turns.{put_start, put_frac, PlacedTo}
use Rattle.path.proofs.Path.{path_next}

-- ---- one place more
module _ (shift last : ℕ) (t d i : Float) (places : List ℕ) (fracs : List Float) (f : ℕ) where
  -- what is put at f leaves what stands before it
  placed_set : (s : ℕ) (x : Float) (k : ℕ) → k ≤ f → PlacedTo shift last t d i places fracs k → PlacedTo shift last t d i (set places f s) (set fracs f x) k
  unfolding PlacedTo
  placed_set s x zero l p = tt
  placed_set s x (suc k) l p =
      (placed_set s x k (omega arith) p.0, rw (get_or-set_other places f k s 0 (λ e. omega arith), get_or-set_other fracs f k x nan (λ e. omega arith)) p.1)

  put_next : (p : Option Place) → f < length places → f < length fracs → is_at p ≡ true → place_of shift last (path_at t d i (suc f)).index ≡ p
      → PlacedTo shift last t d i places fracs f → PlacedTo shift last t d i (put_start p f places) (put_frac p f fracs) (suc f)
  unfolding PlacedTo
  put_next (Some p) a b e h q = (placed_set p.start p.frac f (omega arith) q, rw (get_or-set_same places f p.start 0 a, get_or-set_same fracs f p.frac nan b) h)
  put_next None a b e h q = absurd (false≢true e)

-- ---- the walk: what holds after f frames
pub record Walking (shift last : ℕ) (d : Float) (from : Moment) (places₀ : List ℕ) (fracs₀ : List Float) (places : List ℕ) (fracs : List Float) (at : Moment) (reach : Bool) (f : ℕ) : Type 0 where
  pub long : length places ≡ length places₀
  pub wide : length fracs ≡ length fracs₀
  pub along : at ≡ path_at from.step d from.index f
  pub placed : reach ≡ true → PlacedTo shift last from.step d from.index places fracs f

module _ (shift last : ℕ) (d : Float) (from : Moment) (places₀ : List ℕ) (fracs₀ : List Float) where
  pub walking_none : Walking shift last d from places₀ fracs₀ places₀ fracs₀ from true 0
  unfolding path_at PlacedTo
  walking_none = record { long = refl; wide = refl; along = refl; placed = λ e. tt }

  pub walking_next : (places places' : List ℕ) (fracs fracs' : List Float) (at at' : Moment) (reach b : Bool) (p : Option Place) (f : ℕ)
      → Walking shift last d from places₀ fracs₀ places fracs at reach f
      → f < length places₀ → f < length fracs₀ → length places' ≡ length places → length fracs' ≡ length fracs
      → at' ≡ step_index d at → p ≡ place_of shift last at'.index → b ≡ is_at p → places' ≡ put_start p f places → fracs' ≡ put_frac p f fracs
      → Walking shift last d from places₀ fracs₀ places' fracs' at' (b && reach) (f + 1)
  walking_next places places' fracs fracs' at at' reach b p f w k l m n e h u v z =
      let a = path_next from.step d from.index at at' f w.along e in
      let q : at' ≡ path_at from.step d from.index (suc f) = rw add-one at a in
      record {
        long = m ∙ w.long;
        wide = n ∙ w.wide;
        along = a;
        placed = λ r.
            let c = (and-eq-true_iff b reach).0 r in
            rw (v, z, add-one) (put_next shift last from.step d from.index places fracs f p (rw w.long k) (rw w.wide l) (sym u ∙ c.0)
            (ap (λ (y : Moment). place_of shift last y.index) (sym q) ∙ sym h) (w.placed c.1));
      }

  pub walking_done : (places : List ℕ) (fracs : List Float) (at : Moment) (reach : Bool) (f n : ℕ) → Walking shift last d from places₀ fracs₀ places fracs at reach f → f ≡ n
      → (at ≡ path_at from.step d from.index n) × (reach ≡ true → PlacedTo shift last from.step d from.index places fracs n)
  walking_done places fracs at reach f n w e = rw (← e) (w.along, w.placed)
