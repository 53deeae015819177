-- Document 01, "Block run": what a block leaves of the two areas that it may change, channel by channel. Laws behind it: Areas.antt. Assumes nothing.
use mathlib.Core.Bool.{true, false}
use mathlib.Core.List.{List}
use mathlib.Core.Path.{◌≡◌, refl}
use Prim.Native.Nat.{ℕ, ◌/◌, ◌<◌}
use lib.Ieee.{Float}
use lib.ListN.{length, get_or, drop}
use Rattle.error.specs.Refusals.{given}
use Rattle.state.specs.declared.State.{State}
use Rattle.channel.specs.Mask.{is_on}
use Rattle.area.specs.Parts.{part_of}
use Rattle.shape.specs.Shape.{stride_of}
use Rattle.process.specs.declared.Sizes.{Sizes}
use Rattle.process.specs.Block.{Block, block_of}
use Rattle.theorems.specs.Block.{Frame, shifted, refreshed}
use Rattle.theorems.proofs.Areas as areas

module _ (s : State) (frames mask : ℕ) (table input output work : List Float) where
  -- what the block leaves
  abbrev pub left : Block Sizes
  left = block_of s frames mask table input output work

  -- the channel c's share of the input and of an output area, and its part of a working area
  abbrev pub input_in : ℕ → List Float
  input_in c = part_of (length input / s.channels) c input

  abbrev pub output_in : ℕ → List Float → List Float
  output_in c o = part_of (length output / s.channels) c o

  abbrev pub work_in : ℕ → List Float → List Float
  work_in c w = part_of (stride_of s) c w

  -- ---- every block, refused or not
  pub output_stays_long : length left.output ≡ length output
  output_stays_long = areas.every_block s frames mask table input output work (λ o w. length o ≡ length output) refl (areas.output_long s frames mask table input output work)

  pub work_stays_long : length left.work ≡ length work
  work_stays_long = areas.every_block s frames mask table input output work (λ o w. length w ≡ length work) refl (areas.work_long s frames mask input work (length table) (length output))

  module _ (c : ℕ) (l : c < s.channels) where
    -- "Output beyond the needed frames .. stays", in each channel's share
    pub output_beyond_stays : drop s.output (output_in c left.output) ≡ drop s.output (output_in c output)
    output_beyond_stays =
        areas.every_block s frames mask table input output work (λ o w. drop s.output (output_in c o) ≡ drop s.output (output_in c output)) refl
        (λ h. areas.beyond_then s frames mask table input output work c l h (is_on mask c) refl)

    -- "Output .. in switched-off channels stays"
    pub output_off_stays : is_on mask c ≡ false → output_in c left.output ≡ output_in c output
    output_off_stays e = areas.every_block s frames mask table input output work (λ o w. output_in c o ≡ output_in c output) refl (λ h. areas.off_then s frames mask table input output work c l h e)

    -- ---- an accepted block, in a switched-off channel
    -- document 02, R-1: its working area is the moved one, with nothing read or zeroed, and its share of the output is as it was
    pub muted_is : (u : Sizes) → left.said ≡ given u → is_on mask c ≡ false
        → (work_in c left.work ≡ shifted s (work_in c work)) × (output_in c left.output ≡ output_in c output)
    muted_is u a e =
        areas.accepted_block s frames mask table input output work (λ o w. (work_in c w ≡ shifted s (work_in c work)) × (output_in c o ≡ output_in c output)) u a
        (λ h r. (areas.work_off_then s frames mask table input output work c l h e, areas.off_then s frames mask table input output work c l h e))

    -- ---- an accepted block, in a switched-on channel
    module _ (u : Sizes) (a : left.said ≡ given u) (e : is_on mask c ≡ true) where
      -- "samples fill..fill+2L move to the front. Read frames follow, then zeros up to needed input."
      pub work_on_is : work_in c left.work ≡ refreshed s frames (input_in c) (work_in c work)
      work_on_is =
          areas.accepted_block s frames mask table input output work (λ o w. work_in c w ≡ refreshed s frames (input_in c) (work_in c work)) u a
          (λ h r. areas.area_then s frames mask table input output work c l h e)

      -- each frame is the kernel's value on its neighbours, or the sinc's on its grid points' samples by the table, in the working area that the block leaves; z would be read where there is no frame
      pub frame_is : (f : ℕ) → f < s.output → (z : Float) → Frame s table (work_in c left.work) f (get_or (output_in c left.output) f z)
      frame_is f k z =
          areas.accepted_block s frames mask table input output work (λ o w. Frame s table (work_in c w) f (get_or (output_in c o) f z)) u a
          (λ h r. areas.frame_is_then s frames mask table input output work c l h r e f k z)
