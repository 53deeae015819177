-- Places in a line: nothing that a reader needs to believe, for no promise of a public function goes through it. Definitions only.
use Rattle.std.specs.Prelude.{◌≡◌, ℕ, ◌-◌, ◌≤◌, Bool, ◌&&◌, List, length, take, drop, nat_lt, slice_index}
use Rattle.schedule.specs.Words.{is_kind, from_word, word_of, behind_word}

-- a byte of the kind stands at a place
abbrev pub goes_on : Bool → List ℕ → ℕ → Bool
goes_on blank w at = nat_lt at (length w) && is_kind blank (slice_index w at)

-- the first word from a place on stands at `from` up to `to`
pub record WordAt (w : List ℕ) (at from to : ℕ) : Type 0 where
  pub ordered : from ≤ to
  pub within : to ≤ length w
  pub starts : drop from w ≡ from_word (drop at w)
  pub held : take (to - from) (drop from w) ≡ word_of (from_word (drop at w))
  pub then : drop to w ≡ behind_word (from_word (drop at w))
