-- Document 02, R-4: the computed example of a sinc's block holds. Assumes nothing.
use mathlib.Core.Path.{◌≡◌, refl}
use lib.Ieee.{add, sub, mul, div, neg, of_int, of_bits, to_bits, lt, le, eq, fits, is_nan, to_signed, to_unsigned}
use Rattle.error.specs.Refusals.{unless}
use Rattle.whole.specs.Rounded.{made_whole}
use Rattle.interpolation.specs.Grid.{grid_said, point_of}
use Rattle.grid_places.specs.Spots.{spot_from}
use Rattle.sinc_value.specs.Values.{sum_to}
use Rattle.sizes.specs.Sizes.{size_of, needed_input, needed_output, max_input, max_output}
use Rattle.state.specs.Record.{is_state, update_lengths}
use Rattle.construction.specs.Construction.{construct, first_lengths}
use Rattle.area.specs.Parts.{parts_to, each_part}
use Rattle.channel.specs.Moves.{moved, loaded}
use Rattle.path.specs.Path.{path_at}
use Rattle.path.specs.Sites.{all_reach}
use Rattle.frames.specs.Run.{value_at, frames_to}
use Rattle.plan.specs.Plan.{planned}
use Rattle.process.specs.Block.{work_after, output_after}
use Rattle.theorems.specs.Sinc.{gives, found}

pub sinc_holds_lem : gives ≡ found
unfolding unless made_whole size_of needed_input needed_output max_input max_output is_state fits is_nan to_bits update_lengths first_lengths construct path_at grid_said point_of spot_from all_reach planned moved loaded parts_to each_part sum_to value_at frames_to work_after output_after add sub mul div neg of_int of_bits lt le eq to_signed to_unsigned
sinc_holds_lem = refl
