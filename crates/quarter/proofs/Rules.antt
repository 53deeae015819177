-- The rules of document 02 hold of the wave: each is a test that is computed once over the whole table, and `at` carries it to every entry. Assumes nothing.
use mathlib.Core.Bool.{Bool, true, ◌&&◌}
use mathlib.Core.List.{List, [], ◌∷◌}
use mathlib.Core.Path.{◌≡◌, refl}
use Prim.Native.Nat.{ℕ, zero, suc, ◌+◌, ◌-◌, ◌*◌, ◌^◌, ◌≤◌, ◌<◌}
use native.Mathlib.Numerals.{add-one}
use native.Mathlib.Omega.{arith}
use lib.Dec.{T, ltb, leb, ltb→lt, leb→le}
use lib.Ieee.Fits.{and_l, and_r}
use lib.ListN.{length, drop, length-drop}
use lib.Seq.{drop-cons}
use Rattle.quarter.specs.Wave.{wave}
use Rattle.quarter.specs.Rules.{entry, Near, Rules}
use Rattle.quarter.proofs.Table.{every, at}

near : ℕ → ℕ → ℕ → Bool
near e a b = leb a (b + e) && leb b (a + e)

near_is : (e a b : ℕ) → T (near e a b) → Near e a b
unfolding near
near_is e a b t = (leb→le a (b + e) (and_l (leb a (b + e)) (leb b (a + e)) t), leb→le b (a + e) (and_r (leb a (b + e)) (leb b (a + e)) t))

-- ---- the three tests, on what is left of the table at a place
-- the next entry is below this one
fall : List ℕ → Bool
fall [] = true
fall (x ∷ []) = true
fall (x ∷ y ∷ xs) = ltb y x

-- w1 is the entry at place 1
neighbour : ℕ → List ℕ → Bool
neighbour w1 [] = true
neighbour w1 (x ∷ []) = true
neighbour w1 (x ∷ y ∷ []) = true
neighbour w1 (x ∷ y ∷ z ∷ xs) = near (2 ^ 32) (2 ^ 30 * (x + z)) (2 * w1 * y)

-- the mirror of an entry stands at the place that has as many entries before it as this one has behind it
mirror : List ℕ → Bool
mirror [] = true
mirror (x ∷ xs) = near (2 ^ 31) (x * x + entry (length xs) * entry (length xs)) (2 ^ 60)

-- ---- computed
long_is : length wave ≡ 1025
unfolding wave
long_is = refl

all_fall : T (every fall wave)
unfolding wave every fall
all_fall = tt

all_neighbours : T (every (neighbour (entry 1)) wave)
unfolding wave every neighbour near
all_neighbours = tt

all_mirrors : T (every mirror wave)
unfolding wave every mirror near
all_mirrors = tt

-- ---- carried to each place
-- what is left of the table at place k begins with the entry there
front : (k : ℕ) → k < 1025 → drop k wave ≡ entry k ∷ drop (suc k) wave
front k h = drop-cons wave k 0 (rw long_is h)

falls_at : (k : ℕ) → k < 1024 → entry (suc k) < entry k
unfolding fall
falls_at k h = ltb→lt (entry (suc k)) (entry k) (rw (front k (omega arith), front (suc k) (omega arith)) at (at fall wave all_fall k (rw long_is (omega arith))))

neighbours_at : (k : ℕ) → k < 1023 → Near (2 ^ 32) (2 ^ 30 * (entry k + entry (suc (suc k)))) (2 * entry 1 * entry (suc k))
unfolding neighbour
neighbours_at k h =
    near_is _ _ _
    (rw (front k (omega arith), front (suc k) (omega arith), front (suc (suc k)) (omega arith)) at
    (at (neighbour (entry 1)) wave all_neighbours k (rw long_is (omega arith))))

mirrors_at : (k : ℕ) → k ≤ 1024 → Near (2 ^ 31) (entry k * entry k + entry (1024 - k) * entry (1024 - k)) (2 ^ 60)
unfolding mirror
mirrors_at k h =
    let behind : length (drop (suc k) wave) ≡ 1024 - k = rw (length-drop (suc k) wave, long_is) (omega arith) in
    near_is _ _ _ (rw (front k (omega arith), behind) at (at mirror wave all_mirrors k (rw long_is (omega arith))))

inner_at : (k : ℕ) → 0 < k → k < 1024 → Near (2 ^ 32) (2 ^ 30 * (entry (k - 1) + entry (k + 1))) (2 * entry 1 * entry k)
inner_at zero p h = absurd (omega arith)
inner_at (suc k) p h =
    let before : suc k - 1 ≡ k = omega arith in
    rw (add-one, before) (neighbours_at k (omega arith))

starts_at : entry 0 ≡ 2 ^ 30
unfolding wave
starts_at = refl

ends_at : entry 1024 ≡ 0
unfolding wave
ends_at = refl

pub rules : Rules
rules = record { long = long_is; starts = starts_at; ends = ends_at; falls = falls_at; neighbours = inner_at; mirrors = mirrors_at }
