-- What is claimed of salvage's listing. Definitions only.
use Rattle.std.specs.Prelude.{true, false, List, [], ◌∷◌, ◌++◌, ◌⊎◌, ◌≡◌, ℕ, ◌+◌, ◌≤◌, ◌<◌, length, take, drop}
use Rattle.log_records.specs.Records.{agrees, record_length}
use Rattle.log_salvage.specs.declared.Stretch.{Stretch}
use Rattle.log_salvage.specs.declared.Stretch.TheVariants.{Skipped, Kept}

-- a stretch stands in a listing
unfoldable pub Listed : Stretch → List Stretch → Type 0
Listed s [] = ⊥
Listed s (t ∷ rest) = (s ≡ t) ⊎ Listed s rest

-- a record that a listing keeps begins before p and ends after it
pub record Cover (l : List Stretch) (p : ℕ) : Type 0 where
  pub start : ℕ
  pub long : ℕ
  pub kept : Listed (Kept start long) l
  pub before : start < p
  pub over : p < start + long

-- n bytes from `at` on are a record, whole in the log
pub record IsKept (log : List ℕ) (at n : ℕ) : Type 0 where
  pub stands : agrees (drop at log) ≡ true
  pub long : n ≡ record_length (drop at log)
  pub some : 7 ≤ n
  pub whole : at + n ≤ length log

-- n bytes from `at` on, at none of which a record begins; behind them stands one, or the log's end
pub record IsSkipped (log : List ℕ) (at n : ℕ) : Type 0 where
  pub some : 0 < n
  pub none : (i : ℕ) → i < n → agrees (drop (at + i) log) ≡ false
  pub whole : at + n ≤ length log
  pub stops : at + n < length log → agrees (drop (at + n) log) ≡ true

-- a listing from `at` up to the log's end: each stretch begins where the one before it ended, and is what it says
unfoldable pub Walk : List ℕ → ℕ → List Stretch → Type 0
Walk log at [] = at ≡ length log
Walk log at (Kept p n ∷ rest) = (p ≡ at) × (IsKept log at n × Walk log (at + n) rest)
Walk log at (Skipped p n ∷ rest) = (p ≡ at) × (IsSkipped log at n × Walk log (at + n) rest)

-- a record by itself: bytes that agree, and no other behind them
pub record Good (r : List ℕ) : Type 0 where
  pub agrees_it : agrees r ≡ true
  pub long : length r ≡ record_length r

unfoldable pub AllGood : List (List ℕ) → Type 0
AllGood [] = Unit
AllGood (r ∷ rs) = Good r × AllGood rs

-- records one after the other, and the listing that keeps each of them
unfoldable pub joined : List (List ℕ) → List ℕ
joined [] = []
joined (r ∷ rs) = r ++ joined rs

unfoldable pub kept_all : ℕ → List (List ℕ) → List Stretch
kept_all at [] = []
kept_all at (r ∷ rs) = Kept at (length r) ∷ kept_all (at + length r) rs

-- the records that a listing keeps, as bytes
unfoldable pub kept_parts : List ℕ → List Stretch → List (List ℕ)
kept_parts log [] = []
kept_parts log (Kept at n ∷ rest) = take n (drop at log) ∷ kept_parts log rest
kept_parts log (Skipped at n ∷ rest) = kept_parts log rest
