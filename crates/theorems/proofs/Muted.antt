-- Document 02, R-1: the computed example holds, and two other rules would give other areas. Assumes nothing.
use mathlib.Core.List.{[], ◌∷◌}
use mathlib.Core.Path.{◌≡◌, refl}
use lib.Ieee.{add, sub, mul, div, neg, of_int, of_bits, to_bits, lt, le, eq, fits, is_nan}
use Rattle.error.specs.Refusals.{unless}
use Rattle.whole.specs.Rounded.{made_whole}
use Rattle.asynchro_fast.specs.Kernels.{interp_of}
use Rattle.sizes.specs.Sizes.{size_of, needed_input, needed_output, max_input, max_output}
use Rattle.state.specs.Record.{is_state, update_lengths}
use Rattle.construction.specs.Construction.{construct, first_lengths}
use Rattle.area.specs.Parts.{parts_to, each_part}
use Rattle.area.specs.Moves.{moved_all, loaded_all}
use Rattle.channel.specs.Moves.{moved, loaded}
use Rattle.path.specs.Path.{path_at}
use Rattle.path.specs.Places.{place_from}
use Rattle.path.specs.Sites.{all_reach}
use Rattle.frames.specs.Run.{kernel_at, value_at, frames_to}
use Rattle.plan.specs.Plan.{planned}
use Rattle.process.specs.Block.{work_after, output_after}
use Rattle.theorems.specs.Bench.{wholes}
use Rattle.theorems.specs.Muted.{gives, found}

pub muted_holds : gives ≡ found
unfolding unless made_whole size_of needed_input needed_output max_input max_output is_state fits is_nan to_bits update_lengths first_lengths construct path_at place_from all_reach planned moved loaded parts_to each_part interp_of kernel_at value_at frames_to work_after output_after add sub mul div neg of_int of_bits lt le eq
muted_holds = refl

-- the edit `muted_channel_not_moved` of crates/process: by the rule of before R-1 the second block leaves the area as it was, and not 0,0,0,1,1
pub not_moved : loaded_all 0 4 (wholes (2 ∷ [])) 1 0 1 1 5 1 (loaded_all 0 0 (wholes (0 ∷ 0 ∷ 0 ∷ 0 ∷ 1 ∷ [])) 5 1 4 4 5 1 (wholes (0 ∷ 0 ∷ 0 ∷ 0 ∷ 1 ∷ [])))
    ≡ wholes (0 ∷ 0 ∷ 0 ∷ 0 ∷ 1 ∷ [])
unfolding loaded parts_to each_part
not_moved = refl

-- the edit `moved_after_the_reading`: the first block leaves 0,0,0,1,1, and not 0,0,0,0,1
pub moved_last : moved_all 1 4 5 1 (loaded_all 1 4 (wholes (1 ∷ [])) 1 0 1 1 5 1 (wholes (0 ∷ 0 ∷ 0 ∷ 0 ∷ 0 ∷ []))) ≡ wholes (0 ∷ 0 ∷ 0 ∷ 1 ∷ 1 ∷ [])
unfolding moved loaded parts_to each_part
moved_last = refl
