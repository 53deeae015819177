-- A channel's share of the output after the run: its frames, and what stays. Channels are apart. Assumes nothing.
use mathlib.Core.Bool.{true, false}
use mathlib.Core.List.{List, ◌++◌}
use mathlib.Core.Path.{◌≡◌, sym, ap, ◌∙◌}
use Prim.Native.Nat.{ℕ, ◌+◌, ◌*◌, ◌≤◌, ◌<◌}
use native.Mathlib.Omega.{arith}
use lib.Ieee.{Float}
use lib.ListN.{length, get_or, take, drop, get_or-append}
use lib.Seq.{paste, length_paste_head, length-take-le, drop-paste, take-append-le, take_at, get_or-append-add, get_or-take}
use Rattle.kinds.specs.declared.Kind.{Kind}
use Rattle.area.specs.Parts.{part_of}
use Rattle.channel.specs.Mask.{is_on}
use Rattle.channel.proofs.Switched.{where_on_lem, where_off}
use Rattle.area.proofs.Parts.{part_long, part_each}
use Rattle.frames.specs.Run.{frames_to, ran_in, ran_all}
use Rattle.frames.proofs.Frames.{frame_of, frames_long, frame_at}
use Rattle.frames.proofs.Run.{ran_keeps}

-- what stands where in a copy
module _ {A : Type 0} (d : List A) (at : ℕ) (s : List A) (n : ℕ) (hd : at ≤ length d) (hs : n ≤ length s) where
  paste_get : (f : ℕ) (z : A) → f < n → get_or (paste d at s n) (at + f) z ≡ get_or s f z
  paste_get f z l =
      get_or-append (take at d ++ take n s) (drop (at + n) d) z (at + f) (omega (arith, length_paste_head d at s n hd hs))
      ∙ ap (λ (k : ℕ). get_or (take at d ++ take n s) (k + f) z) (sym (length-take-le at d hd))
      ∙ get_or-append-add (take at d) (take n s) f z
      ∙ get_or-take n s f z l

  paste_before : take at (paste d at s n) ≡ take at d
  paste_before =
      take-append-le at (take at d ++ take n s) (drop (at + n) d) (omega (arith, length_paste_head d at s n hd hs))
      ∙ take_at (take at d) (take n s) at (length-take-le at d hd)

module _ (kind : Kind) (table : List Float) (needed mask stride : ℕ) (t d i : Float) (n at share channels : ℕ) (fits : at + n ≤ share) where
  -- what becomes of a channel's share depends on that share and on the channel's own part of the working area
  pub run_part : (work out : List Float) → channels * share ≤ length out → (c : ℕ) → c < channels
      → part_of share c (ran_all kind table needed mask work stride t d i n at share channels out) ≡ ran_in kind table needed mask work stride t d i n at c (part_of share c out)
  run_part work out h c l =
      part_each (ran_in kind table needed mask work stride t d i n at) share channels out (ran_keeps kind table needed mask work stride t d i at share n channels fits) h c l

  pub run_apart : (work work' out out' : List Float) → channels * share ≤ length out → channels * share ≤ length out' → (c : ℕ) → c < channels
      → part_of stride c work ≡ part_of stride c work' → part_of share c out ≡ part_of share c out'
      → part_of share c (ran_all kind table needed mask work stride t d i n at share channels out) ≡ part_of share c (ran_all kind table needed mask work' stride t d i n at share channels out')
  run_apart work work' out out' h h' c l e o = run_part work out h c l ∙ rw (e, o) (sym (run_part work' out' h' c l))

  module _ (work out : List Float) (room : channels * share ≤ length out) (c : ℕ) (l : c < channels) where
    -- a switched-off channel's share stays
    pub run_off : is_on mask c ≡ false → part_of share c (ran_all kind table needed mask work stride t d i n at share channels out) ≡ part_of share c out
    run_off e = run_part work out room c l ∙ where_off (is_on mask c) _ (part_of share c out) e

    -- a switched-on one's: its n frames from place `at` on
    pub run_on : is_on mask c ≡ true
        → part_of share c (ran_all kind table needed mask work stride t d i n at share channels out) ≡ paste (part_of share c out) at (frames_to kind table needed (part_of stride c work) t d i n) n
    run_on e = run_part work out room c l ∙ where_on_lem (is_on mask c) _ (part_of share c out) e

    -- its area has room for the frames
    at_fits : at ≤ length (part_of share c out)
    at_fits = omega (arith, part_long share channels c out room l)

    all_frames : n ≤ length (frames_to kind table needed (part_of stride c work) t d i n)
    all_frames = omega (arith, frames_long kind table needed (part_of stride c work) t d i n)

    -- every frame
    pub run_frame : is_on mask c ≡ true → (f : ℕ) (z : Float) → f < n
        → get_or (part_of share c (ran_all kind table needed mask work stride t d i n at share channels out)) (at + f) z ≡ frame_of kind table needed (part_of stride c work) t d i f
    run_frame e f z k =
        rw (run_on e) (paste_get (part_of share c out) at (frames_to kind table needed (part_of stride c work) t d i n) n at_fits all_frames f z k)
        ∙ frame_at kind table needed (part_of stride c work) t d i n f z k

    -- what stands before the frames and beyond them stays
    pub run_before : is_on mask c ≡ true → take at (part_of share c (ran_all kind table needed mask work stride t d i n at share channels out)) ≡ take at (part_of share c out)
    run_before e = rw (run_on e) (paste_before (part_of share c out) at (frames_to kind table needed (part_of stride c work) t d i n) n at_fits all_frames)

    pub run_beyond : is_on mask c ≡ true → drop (at + n) (part_of share c (ran_all kind table needed mask work stride t d i n at share channels out)) ≡ drop (at + n) (part_of share c out)
    run_beyond e = rw (run_on e) (drop-paste (part_of share c out) at (frames_to kind table needed (part_of stride c work) t d i n) n at_fits all_frames)
