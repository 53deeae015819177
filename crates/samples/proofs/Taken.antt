-- Which blocks are taken, by the tests that the code makes. Assumes nothing.
use mathlib.Core.Bool.{Bool, true, false, ◌&&◌, not, true≢false}
use mathlib.Core.Path.{◌≡◌, refl, sym, ap, ◌∙◌}
use Prim.Native.Nat.{ℕ, ◌*◌, ◌<◌, ◌≤◌}
use native.Mathlib.Omega.{arith}
use borrow.Author.Tests.{lt-ltb, le-ltb, le-leb, lt-leb, ltb-true, leb-true}
use lib.Dec.{ltb, leb}
use Rattle.samples.specs.Counts.{taken}

pub both : (a b : Bool) → (a && b) ≡ true → (a ≡ true) × (b ≡ true)
both true b e = (refl, e)
both false b e = (e, absurd (true≢false (sym e)))

pub yes : (b : Bool) → not b ≡ false → b ≡ true
yes true h = refl
yes false h = absurd (true≢false h)

clash : (b : Bool) → not b ≡ true → b ≡ true → ⊥
clash true h t = true≢false (sym h)
clash false h t = true≢false (sym t)

module _ (channels share room : ℕ) where
  pub taken_none : channels ≡ 0 → false ≡ taken channels share room
  unfolding taken
  taken_none e = rw (le-ltb 0 channels (omega arith))

  pub taken_channels : 0 < channels → 16 < channels → false ≡ taken channels share room
  unfolding taken
  taken_channels a h = rw (lt-ltb 0 channels a, lt-leb channels 16 h)

  pub taken_frames : 0 < channels → channels ≤ 16 → 65536 < share → false ≡ taken channels share room
  unfolding taken
  taken_frames a h l = rw (lt-ltb 0 channels a, le-leb channels 16 h, lt-leb share 65536 l)

  pub taken_room : 0 < channels → channels ≤ 16 → share ≤ 65536 → (most : ℕ) → most ≡ channels * share → leb most room ≡ taken channels share room
  unfolding taken
  taken_room a h l most e = rw (lt-ltb 0 channels a, le-leb channels 16 h, le-leb share 65536 l, e)

  -- what a block that is taken has
  pub record Fits : Type 0 where
    pub some : 0 < channels
    pub channels_few : channels ≤ 16
    pub frames_few : share ≤ 65536
    pub has : channels * share ≤ room

  pub taken_fits : taken channels share room ≡ true → Fits
  unfolding taken
  taken_fits e =
      let a = both (ltb 0 channels) _ e in
      let b = both (leb channels 16) _ a.1 in
      let c = both (leb share 65536) _ b.1 in
      record {
        some = ltb-true 0 channels a.0;
        channels_few = leb-true channels 16 b.0;
        frames_few = leb-true share 65536 c.0;
        has = leb-true (channels * share) room c.1;
      }

  -- the code's test of a block
  module _ (b : Bool) (e : b ≡ taken channels share room) where
    pub fits_if : not b ≡ false → Fits
    fits_if h = taken_fits (sym e ∙ yes b h)

    pub refused_if : not b ≡ true → taken channels share room ≡ true → ⊥
    refused_if h t = clash b h (e ∙ t)

    pub taken_if : not b ≡ false → taken channels share room ≡ false → ⊥
    taken_if h f = clash b (ap not (e ∙ f)) (yes b h)
