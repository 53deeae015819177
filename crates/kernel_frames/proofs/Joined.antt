-- A run of frames joined to those before it, and a run by its places: both are the frames that the definition says. Assumes nothing.
use mathlib.Core.Bool.{Bool, true, false}
use mathlib.Core.List.{List, ◌∷◌, [], ◌++◌, append_assoc, append-nil}
use mathlib.Core.Path.{◌≡◌, refl, sym, ap, ◌∙◌, subst}
use Prim.Native.Nat.{ℕ, zero, suc, ◌+◌, ◌*◌, ◌≤◌}
use native.Mathlib.Nat.{add-zero, add-suc, add_assoc}
use native.Mathlib.Omega.{arith}
use lib.Ieee.{Float}
use lib.ListN.{length, take, drop}
use lib.Seq.{paste, take-paste, drop-paste, take-append-add, take_all, drop-drop}
use Rattle.asynchro_fast.specs.declared.PolynomialDegree.{PolynomialDegree}
use Rattle.asynchro_fast.specs.Degrees.{points_of}
use Rattle.kinds.specs.declared.Kind.{Kind}
use Rattle.kinds.specs.declared.Kind.TheVariants.{Polynomial}
use Rattle.kinds.specs.Kinds as kinds
use Rattle.kinds.specs.Kinds.{table_of}
use Rattle.area.specs.Parts.{part_of}
use Rattle.channel.specs.Mask.{is_on, where_on}
use Rattle.area.proofs.Parts.{part_long, each_same, each_each}
use Rattle.path.specs.declared.Moment.{Moment}
use Rattle.path.specs.declared.Place.{Place}
use Rattle.std.proofs.Common.{Option, Some}
use Rattle.path.specs.declared.Site.TheVariants.{Kernel}
use Rattle.path.specs.Path.{step_index, path_at}
use Rattle.path.specs.Places.{place_at, shift_of, last_of}
use Rattle.path.specs.Sites.{site_of}
use Rattle.path.specs.Turns.{PlacedTo}
use Rattle.path.proofs.Places.{place_reach}
use Rattle.kernel_runs.specs.Runs.{kernel_on, run_to, FitTo}
use Rattle.frames.specs.Run.{kernel_at, value_at, frames_to, ran_in, ran_all}
use Rattle.frames.specs.Turns.{on_in}
use Rattle.kernel_frames.specs.Turns.{some_frames, filled_all}
use Rattle.frames.proofs.Frames.{frame_of, frames_long}
use Rattle.frames.proofs.Run.{ran_keeps, Ran}

-- ---- the path, and the frames of one channel, from where f frames left off
module _ (t d i : Float) (f : ℕ) where
  pub path_more : (m : ℕ) → path_at (path_at t d i f).step d (path_at t d i f).index m ≡ path_at t d i (f + m)
  unfolding path_at
  path_more zero = rw add-zero
  path_more (suc m) = rw (add-suc f m) (ap (step_index d) (path_more m))

module _ (kind : Kind) (table : List Float) (needed : ℕ) (w : List Float) (t d i : Float) (f : ℕ) where
  frames_more : (m : ℕ) → frames_to kind table needed w t d i (f + m) ≡ frames_to kind table needed w t d i f ++ frames_to kind table needed w (path_at t d i f).step d (path_at t d i f).index m
  unfolding frames_to
  frames_more zero = rw (add-zero, append-nil)
  frames_more (suc m) =
      let a = frames_to kind table needed w t d i f in
      let b = frames_to kind table needed w (path_at t d i f).step d (path_at t d i f).index m in
      ap (frames_to kind table needed w t d i) (add-suc f m)
      ∙ ap (λ (l : List Float). l ++ (frame_of kind table needed w t d i (f + m) ∷ [])) (frames_more m)
      ∙ append_assoc a b (frame_of kind table needed w t d i (f + m) ∷ [])
      ∙ ap (λ (p : Moment). a ++ (b ++ (value_at table w (site_of kind needed p.index) ∷ []))) (sym (path_more t d i f (suc m) ∙ ap (path_at t d i) (add-suc f m)))

-- a copy behind a copy
paste_more : (o a b : List Float) (at f m : ℕ) → length a ≡ f → length b ≡ m → at + (f + m) ≤ length o → paste (paste o at a f) (at + f) b m ≡ paste o at (a ++ b) (f + m)
paste_more o a b at f m e k h =
    let x = paste o at a f in
    let front : take (at + f) x ≡ take at o ++ a = take-paste o at a f (omega arith) (omega arith) ∙ ap (λ (l : List Float). take at o ++ l) (take_all f a (omega arith)) in
    let back : drop (at + f + m) x ≡ drop (at + (f + m)) o =
    sym (drop-drop m (at + f) x) ∙ ap (drop m) (drop-paste o at a f (omega arith) (omega arith)) ∙ drop-drop m (at + f) o ∙ ap (λ (n : ℕ). drop n o) (add_assoc at f m) in
    let middle : take (f + m) (a ++ b) ≡ a ++ take m b = subst (λ (n : ℕ). take (n + m) (a ++ b) ≡ a ++ take m b) e (take-append-add a b m) in
    rw (front, back, middle, append_assoc (take at o) a (take m b))

-- ---- in all channels
module _ (kind : Kind) (table : List Float) (needed mask : ℕ) (work : List Float) (stride : ℕ) (t d i : Float) (at share channels : ℕ) where
  turn_more : (f m c : ℕ) (o : List Float) → at + (f + m) ≤ length o
      → ran_in kind table needed mask work stride (path_at t d i f).step d (path_at t d i f).index m (at + f) c (ran_in kind table needed mask work stride t d i f at c o)
      ≡ ran_in kind table needed mask work stride t d i (f + m) at c o
  turn_more f m c o h = go (is_on mask c)
    where
      w : List Float
      w = part_of stride c work

      a : List Float
      a = frames_to kind table needed w t d i f

      b : List Float
      b = frames_to kind table needed w (path_at t d i f).step d (path_at t d i f).index m

      go : (z : Bool) → where_on z (paste (where_on z (paste o at a f) o) (at + f) b m) (where_on z (paste o at a f) o) ≡ where_on z (paste o at (frames_to kind table needed w t d i (f + m)) (f + m)) o
      go true =
          paste_more o a b at f m (frames_long kind table needed w t d i f) (frames_long kind table needed w (path_at t d i f).step d (path_at t d i f).index m) h
          ∙ ap (λ (l : List Float). paste o at l (f + m)) (sym (frames_more kind table needed w t d i f m))
      go false = refl

  pub ran_more : (out₀ out out' : List Float) (moment moment' : Moment) (f m : ℕ) → Ran kind table needed mask work stride t d i at share channels out₀ out moment f
      → channels * share ≤ length out₀ → at + (f + m) ≤ share → length out' ≡ length out → moment' ≡ path_at moment.step d moment.index m
      → out' ≡ ran_all kind table needed mask work stride moment.step d moment.index m (at + f) share channels out
      → Ran kind table needed mask work stride t d i at share channels out₀ out' moment' (f + m)
  ran_more out₀ out out' moment moment' f m r h k l e w =
      let g = ran_in kind table needed mask work stride t d i f at in
      let v = ran_in kind table needed mask work stride (path_at t d i f).step d (path_at t d i f).index m (at + f) in
      record {
        long = l ∙ r.long;
        along = e ∙ ap (λ (p : Moment). path_at p.step d p.index m) r.along ∙ path_more t d i f m;
        is =
            rw (w, r.is, r.along) (
            each_each g share channels out₀ (ran_keeps kind table needed mask work stride t d i at share f channels (omega arith)) h v
            ∙ each_same (λ c o. v c (g c o)) (ran_in kind table needed mask work stride t d i (f + m) at) share channels out₀
            (λ c j. turn_more f m c (part_of share c out₀) (rw (part_long share channels c out₀ h j) k)));
      }

-- ---- a run by its places
module _ (degree : PolynomialDegree) (table : List Float) (needed : ℕ) (t d i : Float) (places : List ℕ) (fracs : List Float) where
  value_is : (w : List Float) (p : Option Place) (s : ℕ) (x : Float) → p ≡ Some (place_at s x) → kernel_on degree w s x ≡ value_at table w (Kernel degree p)
  unfolding kernel_on value_at kernel_at
  value_is w p s x e = rw e

  run_frames : (w : List Float) (n : ℕ) → PlacedTo (shift_of degree) (last_of degree needed) t d i places fracs n → run_to degree w places fracs n ≡ frames_to (Polynomial degree) table needed w t d i n
  unfolding run_to frames_to PlacedTo
  run_frames w zero p = refl
  run_frames w (suc n) p = rw (run_frames w n p.0, value_is w _ _ _ p.1)

  pub filled_ran : (mask : ℕ) (work : List Float) (stride n at share channels : ℕ) (out : List Float) → PlacedTo (shift_of degree) (last_of degree needed) t d i places fracs n
      → filled_all degree mask work stride places fracs at n share channels out ≡ ran_all (Polynomial degree) table needed mask work stride t d i n at share channels out
  filled_ran mask work stride n at share channels out p =
      each_same (on_in mask work stride (some_frames degree places fracs at n)) (ran_in (Polynomial degree) table needed mask work stride t d i n at) share channels out
      (λ c j. ap (λ (l : List Float). where_on (is_on mask c) (paste (part_of share c out) at l n) (part_of share c out)) (run_frames (part_of stride c work) n p))

  pub placed_fit : (m n : ℕ) → 2 * points_of degree + needed ≤ m → PlacedTo (shift_of degree) (last_of degree needed) t d i places fracs n → FitTo degree m places n
  unfolding FitTo PlacedTo
  placed_fit m zero h p = tt
  placed_fit m (suc n) h p = (placed_fit m n h p.0, place_reach degree needed _ _ m h (sym p.1))

  -- with the shift and the last place that the code has worked out
  pub placed_as : (shift last n : ℕ) → shift ≡ shift_of degree → last ≡ last_of degree needed → PlacedTo shift last t d i places fracs n → PlacedTo (shift_of degree) (last_of degree needed) t d i places fracs n
  placed_as shift last n a b p = rw (a, b) at p

-- ---- a kind that is a polynomial's
pub kernel_asks : (k : Kind) (degree : PolynomialDegree) (n needed stride : ℕ) → k ≡ Polynomial degree → n ≡ table_of k → 2 * kinds.points_of k + needed ≤ stride → (n ≡ 0) × (2 * points_of degree + needed ≤ stride)
kernel_asks k degree n needed stride e h l = (h ∙ ap table_of e, subst (λ (z : Kind). 2 * kinds.points_of z + needed ≤ stride) e l)

pub kernel_ran : (k : Kind) (degree : PolynomialDegree) (table : List Float) (needed mask : ℕ) (work : List Float) (stride : ℕ) (t d i : Float) (n at share channels : ℕ) (out out' : List Float) → k ≡ Polynomial degree
    → out' ≡ ran_all (Polynomial degree) table needed mask work stride t d i n at share channels out → out' ≡ ran_all k table needed mask work stride t d i n at share channels out
kernel_ran k degree table needed mask work stride t d i n at share channels out out' e h = rw e h
