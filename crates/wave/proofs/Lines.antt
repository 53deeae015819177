-- The line by places is the line by whole numbers: the cosine and the sine. Assumes nothing.
use Rattle.std.proofs.Common.{◌≡◌, ℕ, ◌+◌, ◌%◌, ◌<◌, ◌≤◌, true, T, ℤ, pos, ◌+ℤ◌, ◌-ℤ◌, sym, ◌∙◌, arith}
use lib.Ieee.{Float, binary64, fits, to_signed}
use Rattle.whole.specs.declared.Parts.{Parts}
use Rattle.whole.specs.Rounded.{split_of}
use Rattle.whole.specs.Small.{small}
use Rattle.whole.proofs.Small.{floor_cast}
use Rattle.wave.specs.Carried.{place_of}
use Rattle.wave.specs.Cosine.{between, steps_of, cosine_at, sine_at}
use Rattle.wave.specs.Turns.{Castable, line_from, line_at}
use Rattle.wave.proofs.Places.{place_inside, place_plus, place_back}

-- y is so many steps ahead of z
line_is : (z y : ℤ) (ahead : ℕ) (x : Float) → place_of y ≡ (place_of z + ahead) % 4096 → line_from (place_of z + ahead) x ≡ between y x
line_is z y ahead x h =
    let next : (place_of z + ahead + 1) % 4096 ≡ place_of (y +ℤ pos 1) = step (place_of z + ahead) (place_of y) h ∙ sym (place_plus y 1) in
    rw (← h, next)
  where
    step : (n p : ℕ) → p ≡ n % 4096 → (n + 1) % 4096 ≡ (p + 1) % 4096
    step n p h = omega arith

pub cosine_is : (k : Float) → line_at 0 k ≡ cosine_at k
unfolding cosine_at
cosine_is k = line_is (steps_of k) (steps_of k) 0 (split_of k).frac (own (place_of (steps_of k)) (place_inside (steps_of k)))
  where
    own : (p : ℕ) → p < 4096 → p ≡ (p + 0) % 4096
    own p h = omega arith

pub sine_is : (k : Float) → line_at 3072 k ≡ sine_at k
unfolding sine_at
sine_is k = line_is (steps_of k) (steps_of k -ℤ pos 1024) 3072 (split_of k).frac (place_back (steps_of k))

-- what the casts ask of the floor of a k below 2 ^ 52
pub castable : (k : Float) (s : Parts) → T (fits binary64 k) → small k ≡ true → s ≡ split_of k → Castable s.floor
castable k s f h e = let c = floor_cast k f h in rw e (record { above = c.0; below = c.1; size = c.2 })

-- the line, put together as the code does
pub line_at_lem : (ahead : ℕ) (k : Float) (s : Parts) (p : ℕ) (y : Float) → s ≡ split_of k → p ≡ place_of (to_signed 63 s.floor) → y ≡ line_from (p + ahead) s.frac → y ≡ line_at ahead k
line_at_lem ahead k s p y e h v = v ∙ rw (h, e)

pub place_small : (z : ℤ) (p ahead : ℕ) → p ≡ place_of z → ahead ≤ 4096 → p + ahead ≤ 8192
place_small z p ahead e h = omega (arith, place_inside z)
