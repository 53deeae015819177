-- What a turn of the loop over the frames writes: nothing that a reader needs to believe, for no promise of a public function goes through it. Definitions only.
use Rattle.std.specs.Prelude.{List, ℕ, Float, set}
use Rattle.area.specs.Parts.{part_of, each_part}
use Rattle.channel.specs.Mask.{is_on, where_on}
use Rattle.path.specs.declared.Site.{Site}
use Rattle.frames.specs.Run.{value_at}

-- what `write` makes of channel c's share of the output and its part of the working area; a switched-off channel's share stays
abbrev pub on_in : ℕ → List Float → ℕ → (List Float → List Float → List Float) → ℕ → List Float → List Float
on_in mask work stride write c o = where_on (is_on mask c) (write (part_of stride c work) o) o

-- one frame, with its site, at place k of each share
abbrev pub one_frame : List Float → Site → ℕ → List Float → List Float → List Float
one_frame table site k w o = set o k (value_at table w site)

abbrev pub wrote_all : List Float → ℕ → List Float → ℕ → Site → ℕ → ℕ → ℕ → List Float → List Float
wrote_all table mask work stride site k share channels = each_part (on_in mask work stride (one_frame table site k)) share channels
