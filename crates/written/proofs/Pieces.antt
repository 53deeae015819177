-- Pieces of a block, written one behind the other. Assumes nothing.
use mathlib.Core.Bool.{Bool, true, false, ◌&&◌, not, true≢false}
use mathlib.Core.List.{List}
use mathlib.Core.Path.{◌≡◌, sym, ap, ◌∙◌}
use Prim.Native.Nat.{ℕ, ◌+◌, ◌-◌, ◌*◌, ◌<◌, ◌≤◌}
use native.Mathlib.Nat.{mul-le-mul_left}
use native.Mathlib.Omega.{arith}
use borrow.Author.Tests.{ltb-false, leb-true}
use lib.Dec.{ltb, leb}
use lib.Ieee.{Float}
use Rattle.samples.specs.Counts.{taken}
use Rattle.samples.specs.Frames.{gathered_to}
use Rattle.samples.proofs.Products.{small_product}
use Rattle.samples.proofs.Taken.{taken_fits, both, yes}
use Rattle.written.specs.Pieces.{Written}

-- ---- writing on
pub gathered_as : (channels share done want : ℕ) (w : List Float) (bs b : List ℕ) → b ≡ gathered_to channels share done w bs want → b ≡ gathered_to channels share done w bs (done + want - done)
gathered_as channels share done want w bs b e = e ∙ ap (λ (n : ℕ). gathered_to channels share done w bs n) (omega arith)

pub writes_end : (first most start s : ℕ) (good : Bool) → start ≡ first → first ≤ s → s ≤ most → (good ≡ true → most ≤ s) → Written first most start s good
writes_end first most start s good e l h f = record { from = e; low = l; high = h; whole = λ g. omega (arith, f g) }

pub writes_over : (most s : ℕ) (good b : Bool) → b ≡ (good && ltb s most) → b ≡ false → good ≡ true → most ≤ s
writes_over most s true b e f g = ltb-false s most (sym e ∙ f)
writes_over most s false b e f g = absurd (true≢false (sym g))

-- ---- the frames from..to, by the code's test
module _ (channels share room from to : ℕ) (b : Bool) (e : b ≡ taken channels share room) (h : not (b && (leb from to && leb to share)) ≡ false) where
  pub range_goes : taken channels share room && (leb from to && leb to share) ≡ true
  range_goes = ap (λ (x : Bool). x && (leb from to && leb to share)) (sym e) ∙ yes (b && (leb from to && leb to share)) h

  pub range_in : (0 < channels) × (channels ≤ 16) × (share ≤ 65536) × (channels * share ≤ room) × (from ≤ to) × (to ≤ share)
  range_in =
      let t = both (taken channels share room) (leb from to && leb to share) range_goes in
      let u = both (leb from to) (leb to share) t.1 in
      let f = taken_fits channels share room t.0 in
      (f.some, f.channels_few, f.frames_few, f.has, leb-true from to u.0, leb-true to share u.1)

-- their samples lie in the area
pub range_room : (channels share from to first most : ℕ) → channels ≤ 16 → share ≤ 65536 → from ≤ to → to ≤ share → first ≡ channels * from → most ≡ channels * to
    → (channels * share ≤ 1048576) × (most ≤ channels * share) × (first ≤ most)
range_room channels share from to first most c s l h e f =
    (small_product channels share c s, omega (arith, mul-le-mul_left channels h), omega (arith, mul-le-mul_left channels l))

pub written_as : (first most first' most' start last : ℕ) (good : Bool) → first ≡ first' → most ≡ most' → Written first most start last good → Written first' most' start last good
written_as first most first' most' start last good e f w = record { from = w.from ∙ e; low = omega (arith, w.low); high = omega (arith, w.high); whole = λ g. w.whole g ∙ f }
