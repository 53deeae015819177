-- How far the writing of samples went. Definitions only.
use Rattle.std.specs.Prelude.{Bool, true, ◌≡◌, ℕ, ◌≤◌}

-- the samples from `first` up to `last`: all of them if all went well
pub record Written (first most start last : ℕ) (good : Bool) : Type 0 where
  pub from : start ≡ first
  pub low : first ≤ last
  pub high : last ≤ most
  pub whole : good ≡ true → last ≡ most
