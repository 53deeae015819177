-- What a turn of a loop over the parts does: nothing that a reader needs to believe, for no promise of a public function goes through it. Definitions only.
use Rattle.std.specs.Prelude.{List, ◌++◌, ℕ, ◌+◌, ◌*◌, take, drop}
use Rattle.area.specs.Parts.{part_of}

-- w with its part c alone made anew
abbrev pub one_part : {A : Type 0} → (ℕ → List A → List A) → ℕ → ℕ → List A → List A
one_part g share c w = take (c * share) w ++ g c (part_of share c w) ++ drop (c * share + share) w
