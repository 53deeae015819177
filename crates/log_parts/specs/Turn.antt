-- What a turn of the walk leaves: no byte is walked twice, and none is left out. Definitions only.
use Rattle.std.specs.Prelude.{List, ◌≡◌, ℕ, ◌-◌, ◌≤◌, length, take, drop, Option}
use Rattle.log_salvage.specs.declared.Stretch.{Stretch}
use Rattle.log_parts.specs.declared.part.Part.{Part}
use Rattle.log_parts.specs.declared.walk.Walk.{Walk}
use Rattle.log_parts.specs.Walk.{walk_after, length_of}

-- what is walked was read, and what was read stands in the buffer
abbrev pub Inside : Part → List ℕ → Type 0
Inside p buf = (p.at ≤ p.end) × (p.end ≤ length buf)

-- the bytes that were read and are not walked
abbrev pub unwalked : Part → List ℕ → List ℕ
unwalked p buf = drop p.at (take p.end buf)

-- n of them are walked: those not walked then begin with all the others
abbrev pub Follows : ℕ → Part → List ℕ → Part → List ℕ → Type 0
Follows n p buf p' buf' = take (length (unwalked p buf) - n) (unwalked p' buf') ≡ drop n (unwalked p buf)

-- a turn goes on by the bytes of the stretch s, if there is one, in the log and in the buffer alike
pub record Turned (s : Option Stretch) (w : Walk) (p : Part) (buf : List ℕ) (w' : Walk) (p' : Part) (buf' : List ℕ) : Type 0 where
  pub walk : w' ≡ walk_after w s
  pub rest : Follows (length_of s) p buf p' buf'
