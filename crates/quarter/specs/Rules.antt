-- Document 02, R-3: what the quarter wave is asked. They do not settle it: most changes of one entry by one pass all of them. Definitions only.
use Rattle.std.specs.Prelude.{◌≡◌, ℕ, suc, ◌+◌, ◌-◌, ◌*◌, ◌^◌, ◌≤◌, ◌<◌, length, get_or}
use Rattle.quarter.specs.Wave.{wave}

-- the entry at place k
abbrev pub entry : ℕ → ℕ
entry k = get_or wave k 0

-- a is within e of b
abbrev pub Near : ℕ → ℕ → ℕ → Type 0
Near e a b = (a ≤ b + e) × (b ≤ a + e)

pub record Rules : Type 0 where
  pub long : length wave ≡ 1025
  -- "The wave starts at 2^30, ends at 0 and falls strictly"
  pub starts : entry 0 ≡ 2 ^ 30
  pub ends : entry 1024 ≡ 0
  pub falls : (k : ℕ) → k < 1024 → entry (suc k) < entry k
  -- "for each inner entry, 2^30 times the sum of its neighbours is within 2^32 of twice the entry at place 1 times the entry"
  pub neighbours : (k : ℕ) → 0 < k → k < 1024 → Near (2 ^ 32) (2 ^ 30 * (entry (k - 1) + entry (k + 1))) (2 * entry 1 * entry k)
  -- "each entry's square plus its mirror's is within 2^31 of 2^60"
  pub mirrors : (k : ℕ) → k ≤ 1024 → Near (2 ^ 31) (entry k * entry k + entry (1024 - k) * entry (1024 - k)) (2 ^ 60)
