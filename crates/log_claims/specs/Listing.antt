-- Document 02, R-12: the whole listing of a log, and the copy. Definitions only.
use Rattle.std.specs.Prelude.{true, List, [], ◌∷◌, ◌++◌, ℕ, zero, suc, ◌+◌, length, take, drop, Option, Some, None}
use Rattle.log_salvage.specs.Salvage.{stretch_at}
use Rattle.log_salvage.specs.declared.Stretch.{Stretch}
use Rattle.log_salvage.specs.declared.Stretch.TheVariants.{Skipped, Kept}

unfoldable pub end_of : Stretch → ℕ
end_of (Skipped at n) = at + n
end_of (Kept at n) = at + n

-- a stretch and all that follow its end, and nothing where there is none
unfoldable pub with_rest : Option Stretch → (ℕ → List Stretch) → List Stretch
with_rest (Some s) rest = s ∷ rest (end_of s)
with_rest None rest = []

-- "from the end of the last accepted record": stretch after stretch, at most `most` of them
unfoldable pub stretches_from : ℕ → List ℕ → ℕ → List Stretch
stretches_from zero log at = []
stretches_from (suc most) log at = with_rest (stretch_at log at true) (stretches_from most log)

-- "It lists each stretch skipped and record kept": a stretch has a byte, so that there are no more of them than bytes
abbrev pub listing : List ℕ → List Stretch
listing log = stretches_from (length log) log 0

-- "Salvage copies each record": the bytes of those kept
unfoldable pub copy_of : List ℕ → List Stretch → List ℕ
copy_of log [] = []
copy_of log (Kept at n ∷ rest) = take n (drop at log) ++ copy_of log rest
copy_of log (Skipped at n ∷ rest) = copy_of log rest

abbrev pub salvaged : List ℕ → List ℕ
salvaged log = copy_of log (listing log)
