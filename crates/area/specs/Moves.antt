-- Document 01, "Block run", 2: "samples fill..fill+2L move to the front. Read frames follow, then zeros up to needed input." Document 02, R-1: the move "happens in every channel, before the mask is looked at. Only reading, zeroing and output follow the mask." Definitions only.
use Rattle.std.specs.Prelude.{List, ℕ, Float, drop}
use Rattle.channel.specs.Mask.{is_on, where_on}
use Rattle.channel.specs.Moves.{moved, loaded}
use Rattle.area.specs.Parts.{part_of, each_part}

-- the move in channel c, whatever the mask
abbrev pub moved_in : ℕ → ℕ → ℕ → List Float → List Float
moved_in fill l2 c w = moved fill l2 w

-- the reading and the zeros in channel c, where the mask has it on: from place `at` of its share of the input
abbrev pub loaded_in : ℕ → ℕ → List Float → ℕ → ℕ → ℕ → ℕ → ℕ → List Float → List Float
loaded_in mask l2 input share at read needed c w = where_on (is_on mask c) (loaded l2 (drop at (part_of share c input)) read needed w) w

-- all channels of a working area of `channels` parts of `stride` samples
abbrev pub moved_all : ℕ → ℕ → ℕ → ℕ → List Float → List Float
moved_all fill l2 stride channels = each_part (moved_in fill l2) stride channels

abbrev pub loaded_all : ℕ → ℕ → List Float → ℕ → ℕ → ℕ → ℕ → ℕ → ℕ → List Float → List Float
loaded_all mask l2 input share at read needed stride channels = each_part (loaded_in mask l2 input share at read needed) stride channels
