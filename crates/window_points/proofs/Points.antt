-- The steps of a window's cosines are below 2 ^ 52, and what the code makes of each window. Assumes nothing.
use Rattle.std.proofs.Common.{◌≡◌, ℕ, ◌*◌, ◌^◌, ◌<◌, ◌≤◌, true, le_trans, mul-le-mul, arith, lit≤}
use lib.Ieee.{Float, binary64, of_int}
use lib.Ieee.Back.{round_whole}
use Rattle.exact.specs.Doubles.{count}
use Rattle.exact.proofs.Sizes.{Sized, div_sized, whole_sized, sized_below}
use Rattle.whole.specs.Small.{small}
use Rattle.whole.proofs.Small.{is_small}
use Rattle.window_points.specs.Points.{steps_at}

pub steps_most : (h i n : ℕ) → h ≤ 3 → i < n → n ≤ 65536 → 4096 * h * i ≤ 805306368
steps_most h i n H I N = omega (arith, mul-le-mul {n₁ = h} {m₁ = i} {n₂ = 3} {m₂ = 65536} H (omega arith))

-- a number that is at most 2 ^ 51 in size
pub sized_small : (k : ℕ) (x : Float) → Sized binary64 k x → k < 2 ^ 52 → small x ≡ true
sized_small k x s h = is_small x s.number (sized_below binary64 k x s 52 h)

pub steps_small : (h i n : ℕ) → h ≤ 3 → i < n → n ≤ 65536 → small (steps_at h i n) ≡ true
unfolding of_int
steps_small h i n H I N =
    let m = steps_most h i n H I N in
    let M : 4096 * h * i ≤ 2 ^ 53 = le_trans m (lit≤ tt) in
    let K : n ≤ 2 ^ 53 = le_trans N (lit≤ tt) in
    sized_small (4096 * h * i) (steps_at h i n)
    (div_sized binary64 (4096 * h * i) n (count (4096 * h * i)) (count n) (whole_sized binary64 _ (4096 * h * i) M) (round_whole binary64 _ n K) (omega arith) M)
    (omega (arith, m))
