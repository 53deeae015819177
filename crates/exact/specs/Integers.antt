-- The pairs of `Whole` as integers of `lib.IntN`, for a reader who would rather see those. Definitions only.
use Rattle.std.specs.Prelude.{◌≡◌, suc, ◌+◌, ℤ, pos, negsuc}
use Rattle.std.proofs.Math.IntN.{sub_ℕ}
use Rattle.exact.specs.Whole.{Whole}

abbrev pub int : Whole → ℤ
int v = sub_ℕ v.0 v.1

-- one pair for each
abbrev pub pair_of : ℤ → Whole
pair_of (pos n) = (n, 0)
pair_of (negsuc n) = (0, suc n)

-- z is v
abbrev pub Is : ℤ → Whole → Type 0
Is (pos n) v = v.0 ≡ n + v.1
Is (negsuc n) v = v.1 ≡ suc n + v.0
