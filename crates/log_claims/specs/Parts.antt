-- A log that is walked part after part, and what is told of it. Definitions only.
use Rattle.std.specs.Prelude.{Bool, true, false, cond, List, [], ◌∷◌, ◌++◌, ◌≡◌, ℕ, ◌+◌, ◌-◌, ◌≤◌, ◌<◌, ltb, length, drop, Option, Some, None}
use Rattle.log_records.specs.Records.{agrees}
use Rattle.log_salvage.specs.Salvage.{stretch_at}
use Rattle.log_salvage.specs.declared.Stretch.{Stretch}
use Rattle.log_salvage.specs.declared.Stretch.TheVariants.{Skipped, Kept}

-- no record begins from s up to p
abbrev pub NoneIn : List ℕ → ℕ → ℕ → Type 0
NoneIn log s p = (i : ℕ) → s ≤ i → i < p → agrees (drop i log) ≡ false

-- a listing with the bytes from s up to p, if any, skipped before it
abbrev pub pending : ℕ → ℕ → List Stretch → List Stretch
pending s p l = cond (ltb s p) (Skipped s (p - s) ∷ l) l

-- the part in hand at the place p of the log: bytes stand before it, and behind it where it is not the last
pub record InHand (log : List ℕ) (p : ℕ) : Type 0 where
  pub front : List ℕ
  pub part : List ℕ
  pub more : List ℕ
  pub last : Bool
  pub joins : front ++ (part ++ more) ≡ log
  pub ends : last ≡ true → more ≡ []
  pub at : ℕ
  pub here : length front + at ≡ p
  pub inside : at ≤ length part

-- the stretch that the walk gives of it, if any
abbrev pub stretch_in : (log : List ℕ) (p : ℕ) → InHand log p → Option Stretch
stretch_in log p h = stretch_at h.part h.at h.last

-- what is told from p on, where the bytes from s up to p are passed over and not told yet: at each turn some part of the log is in hand
pub data Told (log : List ℕ) : ℕ → ℕ → List Stretch → Type 0 where
  passed : (s p n : ℕ) (l : List Stretch) (h : InHand log p) → stretch_in log p h ≡ Some (Skipped h.at n) → Told log s (p + n) l → Told log s p l
  kept : (s p n : ℕ) (l : List Stretch) (h : InHand log p) → stretch_in log p h ≡ Some (Kept h.at n) → Told log (p + n) (p + n) l → Told log s p (pending s p (Kept p n ∷ l))
  ended : (s p : ℕ) (h : InHand log p) → h.last ≡ true → stretch_in log p h ≡ None → Told log s p (pending s p [])
