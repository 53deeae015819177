-- Document 01, "Block run", 2: "samples fill..fill+2L move to the front. Read frames follow, then zeros up to needed input." One channel's share, whatever the mask. Definitions only.
-- `paste d at s n` is d with the first n of s from place at on.
use Rattle.std.specs.Prelude.{List, ℕ, ◌+◌, ◌-◌, Float, drop, replicate}
use Rattle.std.proofs.Math.Seq.{paste}
use Rattle.exact.specs.Doubles.{zero_f}

-- one channel: l2 samples from fill on move to the front
unfoldable pub moved : ℕ → ℕ → List Float → List Float
moved fill l2 w = paste w 0 (drop fill w) l2

-- one channel: the first `read` of its input go to l2, then zeros up to l2 + needed
unfoldable pub loaded : ℕ → List Float → ℕ → ℕ → List Float → List Float
loaded l2 input read needed w = paste (paste w l2 input read) (l2 + read) (replicate (needed - read) zero_f) (needed - read)
