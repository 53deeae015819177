-- A flat area of equal parts, "channel after channel". Definitions only.
use Rattle.std.specs.Prelude.{List, [], ◌++◌, ℕ, zero, suc, ◌*◌, take, drop}

-- the part of the channel c, of share samples
abbrev pub part_of : {A : Type 0} → ℕ → ℕ → List A → List A
part_of share c w = take share (drop (c * share) w)

-- the first n parts of w, each made anew by g from its number and what it held
unfoldable pub parts_to : {A : Type 0} → (ℕ → List A → List A) → ℕ → List A → ℕ → List A
parts_to g share w zero = []
parts_to g share w (suc c) = parts_to g share w c ++ g c (part_of share c w)

-- w with its first n parts made anew
unfoldable pub each_part : {A : Type 0} → (ℕ → List A → List A) → ℕ → ℕ → List A → List A
unfolding parts_to
each_part g share n w = parts_to g share w n ++ drop (n * share) w
