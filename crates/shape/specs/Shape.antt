-- Document 01, "Block run": "The caller lends ..": what a block is asked with, and refusal 8. No sample enters. Definitions only.
use Rattle.std.specs.Prelude.{Bool, ◌&&◌, ℕ, min, ◌+◌, ◌*◌, ◌/◌, ◌%◌, eqb, leb}
use Rattle.sizes.specs.Sizes.{frames_of}
use Rattle.state.specs.declared.State.{State}
use Rattle.kinds.specs.Kinds.{table_of}
use Rattle.state.specs.Record.{points_in, max_input_of}
use Rattle.channel.specs.Mask.{mask_fits}

-- "Frames read are the smaller of the given count and needed input."
abbrev pub read_of : State → ℕ → ℕ
read_of s frames = min frames s.input

-- samples of one channel in the working area: maximum input + 2L
abbrev pub stride_of : State → ℕ
stride_of s = frames_of (max_input_of s) + 2 * points_in s

-- "a working area of channels * (maximum input + 2L) samples exactly"
abbrev pub work_holds : State → ℕ → Bool
work_holds s work = eqb work (s.channels * stride_of s)

-- R-4: "table of the wrong length 8": points*factor samples exactly; a polynomial record asks for none
abbrev pub table_holds : State → ℕ → Bool
table_holds s table = eqb table (table_of s.kind)

-- "lengths are multiples of the channel count; each channel's share is at least the frames read and needed output"
abbrev pub share_holds : State → ℕ → ℕ → Bool
share_holds s area frames = eqb (area % s.channels) 0 && leb frames (area / s.channels)

-- refusal 8 is given unless this holds, of the frames given, the mask and the lengths of the table and the three areas
abbrev pub shape_holds : State → ℕ → ℕ → ℕ → ℕ → ℕ → ℕ → Bool
shape_holds s frames mask table input output work =
    share_holds s input (read_of s frames) && share_holds s output s.output && work_holds s work && table_holds s table && mask_fits mask s.channels
