-- Document 01, "Apart channels": "two runs that differ only in other channels' samples give a channel the same output and working area." Assumes nothing.
use mathlib.Core.List.{List}
use mathlib.Core.Path.{◌≡◌, refl, sym, ◌∙◌}
use Prim.Native.Nat.{ℕ, ◌*◌, ◌/◌, ◌<◌}
use native.Mathlib.Nat.{le_of_eq, zero-add}
use lib.Ieee.{Float}
use lib.ListN.{length}
use Rattle.error.specs.Refusals.{Said, given, refused}
use Rattle.state.specs.declared.State.{State}
use Rattle.state.specs.Record.{points_in, step_now_of}
use Rattle.area.specs.Parts.{part_of}
use Rattle.area.specs.Moves.{moved_in, loaded_in}
use Rattle.area.proofs.Moves.{loaded_in_apart}
use Rattle.frames.proofs.Apart.{run_apart}
use Rattle.shape.specs.Shape.{read_of, stride_of}
use Rattle.plan.specs.Plan.{increment_of, planned}
use Rattle.shape.proofs.Shape.{Shaped}
use Rattle.process.specs.Block.{work_after, output_after, block_end, block_of}
use Rattle.theorems.proofs.Areas.{shape_of, work_part}

-- one record, frames given, mask and table; two blocks whose areas have the same lengths
module _ (s : State) (frames mask : ℕ) (table input input' output output' work work' : List Float)
    (i : length input ≡ length input') (o : length output ≡ length output') (w : length work ≡ length work') where
  -- a channel's share of the input and of the output, and its part of the working area
  abbrev pub Alike : ℕ → Type 0
  Alike c =
      (part_of (length input / s.channels) c input ≡ part_of (length input / s.channels) c input')
      × (part_of (length output / s.channels) c output ≡ part_of (length output / s.channels) c output')
      × (part_of (stride_of s) c work ≡ part_of (stride_of s) c work')

  -- what the two blocks leave that channel
  abbrev pub SameFor : ℕ → Said State → Type 0
  SameFor c p =
      (part_of (length output / s.channels) c (block_end s frames mask table input output work p).output ≡ part_of (length output / s.channels) c (block_end s frames mask table input' output' work' p).output)
      × (part_of (stride_of s) c (block_end s frames mask table input output work p).work ≡ part_of (stride_of s) c (block_end s frames mask table input' output' work' p).work)

  -- an accepted block
  module _ (h : Shaped s frames (length table) (length input) (length output) (length work)) (c : ℕ) (l : c < s.channels) (a : Alike c) where
    h' : Shaped s frames (length table) (length input') (length output') (length work')
    h' = rw (← i, ← o, ← w) h

    work_alike : part_of (stride_of s) c (work_after s frames mask input 0 work) ≡ part_of (stride_of s) c (work_after s frames mask input' 0 work')
    work_alike = work_part s frames mask input work (length table) (length output) h c l ∙ same ∙ sym (work_part s frames mask input' work' (length table) (length output') h' c l)
      where
        same : loaded_in mask (2 * points_in s) input (length input / s.channels) 0 (read_of s frames) s.input c (moved_in s.fill (2 * points_in s) c (part_of (stride_of s) c work))
            ≡ loaded_in mask (2 * points_in s) input' (length input' / s.channels) 0 (read_of s frames) s.input c (moved_in s.fill (2 * points_in s) c (part_of (stride_of s) c work'))
        same = rw (← i, ← a.2) (loaded_in_apart mask (2 * points_in s) input input' (length input / s.channels) 0 (read_of s frames) s.input c _ a.0)

    output_alike : part_of (length output / s.channels) c (output_after s mask table (work_after s frames mask input 0 work) 0 output)
        ≡ part_of (length output / s.channels) c (output_after s mask table (work_after s frames mask input' 0 work') 0 output')
    unfolding output_after
    output_alike =
        rw (← o)
        (run_apart s.kind table s.input mask (stride_of s) (step_now_of s) (increment_of s) s.index s.output 0 (length output / s.channels) s.channels (rw zero-add h.written_out.enough)
        (work_after s frames mask input 0 work) (work_after s frames mask input' 0 work') output output' (le_of_eq h.written_out.whole) (le_of_eq (h.written_out.whole ∙ o)) c l work_alike a.1)

  ends : (c : ℕ) → c < s.channels → Alike c → (p : Said State) → planned s frames mask (length table) (length input) (length output) (length work) ≡ p → SameFor c p
  ends c l a (given t) e =
      let h = shape_of s frames mask (length table) (length input) (length output) (length work) t e in
      (output_alike h c l a, work_alike h c l a)
  ends c l a (refused n vs) e = (a.1, a.2)

  pub apart : (c : ℕ) → c < s.channels → Alike c
      → (part_of (length output / s.channels) c (block_of s frames mask table input output work).output ≡ part_of (length output / s.channels) c (block_of s frames mask table input' output' work').output)
      × (part_of (stride_of s) c (block_of s frames mask table input output work).work ≡ part_of (stride_of s) c (block_of s frames mask table input' output' work').work)
  apart c l a = rw (← i, ← o, ← w) (ends c l a (planned s frames mask (length table) (length input) (length output) (length work)) refl)
