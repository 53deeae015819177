-- How a stretch moves the walk on. Definitions only.
use Rattle.std.specs.Prelude.{ℕ, ◌+◌, Option, Some, None}
use Rattle.tally.specs.Tally.{capped}
use Rattle.log_salvage.specs.declared.Stretch.{Stretch}
use Rattle.log_salvage.specs.declared.Stretch.TheVariants.{Skipped, Kept}
use Rattle.log_salvage.specs.Salvage.{size_of}
use Rattle.log_parts.specs.declared.walk.Walk.{Walk}

-- by as many bytes as it has, and one that is kept leaves nothing to be listed as skipped
abbrev pub walk_after : Walk → Option Stretch → Walk
walk_after w (Some (Skipped at n)) = record { from = w.from; place = capped (w.place + n) }
walk_after w (Some (Kept at n)) = record { from = capped (w.place + n); place = capped (w.place + n) }
walk_after w None = w

-- how many bytes a stretch has, if there is one
abbrev pub length_of : Option Stretch → ℕ
length_of (Some s) = size_of s
length_of None = 0
