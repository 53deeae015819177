-- The running sums: n steps of x := x + t, and of t := t + d; x := x + t. Definitions only.
use Rattle.std.specs.Prelude.{ℕ, zero, suc, ◌+◌, Float}
use Rattle.std.specs.Float.{Format}
use Rattle.std.specs.Float.Ieee.{add}

-- x after n steps of x := x + t
unfoldable pub run : Format → ℕ → Float → Float → Float
run f zero x t = x
run f (suc n) x t = add f (run f n x t) t

-- x after n steps of t := t + d; x := x + t
unfoldable pub walk : Format → ℕ → Float → Float → Float → Float
unfolding run
walk f zero x t d = x
walk f (suc n) x t d = add f (walk f n x t d) (run f (suc n) t d)

-- 1 + 2 + .. + n, which is n*(n+1)/2: `tri_half` of proofs/Running.antt
unfoldable pub tri : ℕ → ℕ
tri zero = 0
tri (suc n) = tri n + suc n
