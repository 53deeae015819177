-- Areas as words, byte by byte: "An area is its samples' digits run together, or `-` when empty." Definitions only.
use Rattle.std.specs.Prelude.{cond, List, [], ◌∷◌, ◌++◌, ℕ, ◌+◌, eqb, ltb, Float, length, set, Option, Some, None}
use Rattle.std.specs.Float.{binary64}
use Rattle.std.specs.Float.Ieee.{to_bits, of_bits}
use Rattle.text.specs.Digits.{hex_digits}
use Rattle.text.specs.Words.{no_digits, step_run}
use Rattle.text.specs.declared.words.Run.{Run}
use Rattle.text.specs.declared.areas.Area.{Area}
use Rattle.text.specs.declared.areas.Area.TheVariants as area

-- after a digit of the sample at the place k, where there is room for n samples: sixteen digits are the sample
abbrev pub area_next : ℕ → ℕ → Option Run → Area
area_next n k (Some r) = cond (eqb r.count 16) (cond (ltb k n) (area.Samples (k + 1) no_digits) area.Bad) (area.Samples k (Some r))
area_next n k None = area.Bad

-- what the area then holds
abbrev pub area_kept : List Float → ℕ → Option Run → List Float
area_kept xs k (Some r) = cond (eqb r.count 16) (set xs k (of_bits binary64 r.number)) xs
area_kept xs k None = xs

-- one byte more of the word; 45 is `-`
abbrev pub area_step : ℕ → Area → ℕ → Area
area_step n area.Start c = cond (eqb c 45) area.Dash (area_next n 0 (step_run 16 no_digits c))
area_step n area.Dash c = area.Bad
area_step n (area.Samples k r) c = area_next n k (step_run 16 r c)
area_step n area.Bad c = area.Bad

abbrev pub area_after : List Float → Area → ℕ → List Float
area_after xs area.Start c = cond (eqb c 45) xs (area_kept xs 0 (step_run 16 no_digits c))
area_after xs area.Dash c = xs
area_after xs (area.Samples k r) c = area_kept xs k (step_run 16 r c)
area_after xs area.Bad c = xs

-- the word has ended: the number of its samples, where the last of them is whole
abbrev pub samples_done : ℕ → Option Run → Option ℕ
samples_done k (Some r) = cond (eqb r.count 0) (Some k) None
samples_done k None = None

abbrev pub area_done : Area → Option ℕ
area_done area.Start = None
area_done area.Dash = Some 0
area_done (area.Samples k r) = samples_done k r
area_done area.Bad = None

-- ---- a whole word
-- what reading has come to: how far the word is, and what the area holds
pub record Held : Type 0 where
  pub read : Area
  pub samples : List Float

abbrev pub held_step : Held → ℕ → Held
held_step h c = record { read = area_step (length h.samples) h.read c; samples = area_after h.samples h.read c }

-- a word read byte by byte
unfoldable pub read_all : Held → List ℕ → Held
read_all h [] = h
read_all h (c ∷ w) = read_all (held_step h c) w

-- samples as text, and an area
unfoldable pub samples_text : List Float → List ℕ
samples_text [] = []
samples_text (x ∷ xs) = hex_digits (to_bits binary64 x) ++ samples_text xs

unfoldable pub area_text : List Float → List ℕ
area_text [] = 45 ∷ []
area_text (x ∷ xs) = samples_text (x ∷ xs)
