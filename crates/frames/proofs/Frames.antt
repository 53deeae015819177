-- The frames of one channel: how many there are, what each is, and one more. Assumes nothing.
use mathlib.Core.List.{List, []}
use mathlib.Core.Logic.{⊎_elim}
use mathlib.Core.Path.{◌≡◌, refl, ◌∙◌}
use Prim.Native.Nat.{ℕ, zero, suc, ◌+◌, ◌<◌}
use native.Mathlib.Nat.{not-suc-le-zero, eq-or-lt_of_le, le_of_suc-le-suc}
use native.Mathlib.Numerals.{add-one}
use native.Mathlib.Omega.{arith}
use lib.Ieee.{Float, nan}
use lib.ListN.{length, get_or, take, set, length-append, get_or-append}
use lib.Seq.{paste, paste-suc, take-append-le, get_or_at}
use Rattle.kinds.specs.declared.Kind.{Kind}
use Rattle.path.specs.Path.{path_at}
use Rattle.path.specs.Sites.{site_of}
use Rattle.frames.specs.Run.{value_at, frames_to}

-- the value of frame f, the first being frame 0
abbrev pub frame_of : Kind → List Float → ℕ → List Float → Float → Float → Float → ℕ → Float
frame_of kind table needed work t d i f = value_at table work (site_of kind needed (path_at t d i (suc f)).index)

module _ (kind : Kind) (table : List Float) (needed : ℕ) (work : List Float) (t d i : Float) where
  pub frames_long : (n : ℕ) → length (frames_to kind table needed work t d i n) ≡ n
  unfolding frames_to
  frames_long zero = refl
  frames_long (suc n) = simp (length-append, frames_long n, add-one)

  pub frame_at : (n f : ℕ) (z : Float) → f < n → get_or (frames_to kind table needed work t d i n) f z ≡ frame_of kind table needed work t d i f
  unfolding frames_to
  frame_at zero f z l = absurd (not-suc-le-zero l)
  frame_at (suc n) f z l =
      ⊎_elim
      (λ (e : f ≡ n). rw e (get_or_at (frames_to kind table needed work t d i n) (frame_of kind table needed work t d i n) [] z n (frames_long n)))
      (λ (e : f < n). get_or-append (frames_to kind table needed work t d i n) _ z f (rw (frames_long n) e) ∙ frame_at n f z e)
      (eq-or-lt_of_le (le_of_suc-le-suc l))

  frames_front : (f : ℕ) → take f (frames_to kind table needed work t d i (suc f)) ≡ take f (frames_to kind table needed work t d i f)
  unfolding frames_to
  frames_front f = take-append-le f (frames_to kind table needed work t d i f) _ (rw (frames_long f) (omega arith))

  -- one frame more, from place `at` on
  pub frame_next : (o : List Float) (at f : ℕ) → at + f < length o
      → set (paste o at (frames_to kind table needed work t d i f) f) (at + f) (frame_of kind table needed work t d i f) ≡ paste o at (frames_to kind table needed work t d i (suc f)) (suc f)
  frame_next o at f h =
      let b = frames_to kind table needed work t d i (suc f) in
      rw (← frames_front f, ← frame_at (suc f) f nan (omega arith)) (paste-suc o at b f nan h (rw (frames_long (suc f)) (omega arith)))
