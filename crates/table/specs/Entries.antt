-- How many entries a table has. Definitions only.
use Rattle.std.specs.Prelude.{cond, ℕ, ◌*◌, leb}

-- points * factor; 0 above 65,536, where the table is refused
abbrev pub entries_of : ℕ → ℕ → ℕ
entries_of points factor = cond (leb (points * factor) 65536) (points * factor) 0
