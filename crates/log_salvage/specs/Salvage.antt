-- Document 02, R-12: what salvage keeps and what it skips. Definitions only.
use Rattle.std.specs.Prelude.{Bool, cond, not, ◌&&◌, ◌||◌, List, [], ◌∷◌, ℕ, suc, ltb, length, drop, Option, Some, None}
use Rattle.log_records.specs.Records.{agrees, record_length}
use Rattle.log_salvage.specs.declared.Stretch.{Stretch}
use Rattle.log_salvage.specs.declared.Stretch.TheVariants.{Skipped, Kept}

-- whether the walk stops there: before a record and, where the log goes on behind these bytes (`last` is false), before too few to judge: a record has up to 71
abbrev pub stops_at : Bool → List ℕ → Bool
stops_at last bs = agrees bs || (not last && ltb (length bs) 71)

-- "scanning left to right .., and one byte on after a failure": how many bytes of these are skipped
unfoldable pub skips : Bool → List ℕ → ℕ
skips last [] = 0
skips last (b ∷ bs) = cond (stops_at last (b ∷ bs)) 0 (suc (skips last bs))

-- how many bytes a stretch has
abbrev pub size_of : Stretch → ℕ
size_of (Skipped at n) = n
size_of (Kept at n) = n

-- the stretch that begins at the place `at`, of these bytes, if any does
abbrev pub stretch_of : Bool → ℕ → List ℕ → Option Stretch
stretch_of last at bs = cond (agrees bs) (Some (Kept at (record_length bs))) (cond (ltb 0 (skips last bs)) (Some (Skipped at (skips last bs))) None)

unfoldable pub stretch_at : List ℕ → ℕ → Bool → Option Stretch
stretch_at log at last = stretch_of last at (drop at log)
