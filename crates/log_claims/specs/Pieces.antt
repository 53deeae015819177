-- Where a false record can come from: a damaged log as what is intact of it and what is not. Definitions only.
use Rattle.std.specs.Prelude.{Bool, true, false, ◌||◌, List, [], ◌∷◌, ◌++◌, ◌≡◌, ℕ, ◌+◌, ◌≤◌, ◌<◌, eqb, length, drop}
use Rattle.log_records.specs.Records.{record_length}
use Rattle.log_salvage.specs.declared.Stretch.TheVariants.{Kept}
use Rattle.log_claims.specs.Listing.{listing}
use Rattle.log_claims.specs.Claims.{Listed, Good}

-- a record with all its bytes as they were written, or other bytes: damaged, stray, or what is left of a record that is damaged
pub data Piece : Type 0 where
  intact : List ℕ → Piece
  other : List ℕ → Piece

-- the log that they make
unfoldable pub bytes_of : List Piece → List ℕ
bytes_of [] = []
bytes_of (intact r ∷ ps) = r ++ bytes_of ps
bytes_of (other bs ∷ ps) = bs ++ bytes_of ps

-- what is called intact is a record
unfoldable pub Pieces : List Piece → Type 0
Pieces [] = Unit
Pieces (intact r ∷ ps) = Good r × Pieces ps
Pieces (other bs ∷ ps) = Pieces ps

-- whether an intact record begins at the place p; the pieces begin at `at`
unfoldable pub intact_at : ℕ → List Piece → ℕ → Bool
intact_at at [] p = false
intact_at at (intact r ∷ ps) p = eqb p at || intact_at (at + length r) ps p
intact_at at (other bs ∷ ps) p = intact_at (at + length bs) ps p

-- ---- of a log, and the places at which its intact records begin
-- a false record: kept, and none of the intact ones
pub record IsFalse (log : List ℕ) (is : ℕ → Bool) (q n : ℕ) : Type 0 where
  pub kept : Listed (Kept q n) (listing log)
  pub not_intact : is q ≡ false

-- it begins in other bytes: in no intact record
abbrev pub InOther : List ℕ → (ℕ → Bool) → ℕ → Type 0
InOther log is q = (p : ℕ) → is p ≡ true → p ≤ q → q < p + record_length (drop p log) → ⊥

-- it begins within the intact record at `at`, of which a false record before it covers the start
pub record InCovered (log : List ℕ) (is : ℕ → Bool) (q : ℕ) : Type 0 where
  pub at : ℕ
  pub intact_place : is at ≡ true
  pub behind : at < q
  pub within : q < at + record_length (drop at log)
  pub start : ℕ
  pub long : ℕ
  pub earlier : IsFalse log is start long
  pub before : start < at
  pub over : at < start + long

-- the false record that it goes back to, which begins in other bytes
pub record GoesBack (log : List ℕ) (is : ℕ → Bool) (q : ℕ) : Type 0 where
  pub start : ℕ
  pub long : ℕ
  pub first : IsFalse log is start long
  pub before : start ≤ q
  pub from_other : InOther log is start
