-- Logs and their listings, worked out on the definitions: document 02's own, and a false record of each kind that costs a good one. Assumes nothing.
use mathlib.Core.List.{[], ◌∷◌, ◌++◌}
use mathlib.Core.Path.{◌≡◌, refl}
use Rattle.log_records.specs.Records.{total, record_of, agrees}
use Rattle.log_salvage.specs.declared.Stretch.TheVariants.{Skipped, Kept}
use Rattle.log_salvage.specs.Salvage.{skips, stretch_at}
use Rattle.log_claims.specs.Listing.{end_of, with_rest, stretches_from, listing}

-- "For 3 stray bytes followed by one good 9-byte record the whole listing is two lines"
stray_and_good : listing (0 ∷ 1 ∷ 2 ∷ record_of 3 (5 ∷ 6 ∷ [])) ≡ Skipped 0 3 ∷ Kept 3 9 ∷ []
unfolding record_of total agrees skips stretch_at end_of with_rest stretches_from
stray_and_good = refl

-- two records, of 9 and of 8 bytes
two_good : listing (record_of 1 (1 ∷ 2 ∷ []) ++ record_of 1 (0 ∷ [])) ≡ Kept 0 9 ∷ Kept 9 8 ∷ []
unfolding record_of total agrees skips stretch_at end_of with_rest stretches_from
two_good = refl

-- a damaged byte: the same two with one bit of the first's length flipped, so that it ends within the second; neither is kept
damaged_byte : listing (0xD7 ∷ 0x1A ∷ 1 ∷ 6 ∷ 0 ∷ 1 ∷ 2 ∷ 6 ∷ 0 ∷ record_of 1 (0 ∷ [])) ≡ Kept 0 13 ∷ Skipped 13 4 ∷ []
unfolding record_of total agrees skips stretch_at end_of with_rest stretches_from
damaged_byte = refl

-- five stray bytes in front of a good record of 11, which is not kept
five_stray : listing (0xD7 ∷ 0x1A ∷ 4 ∷ 4 ∷ 0 ∷ record_of 3 (1 ∷ 0xAA ∷ 0xBB ∷ 0xCC ∷ [])) ≡ Kept 0 11 ∷ Skipped 11 5 ∷ []
unfolding record_of total agrees skips stretch_at end_of with_rest stretches_from
five_stray = refl

-- a payload that looks like a record's head does no harm in a sound record
sound_head : listing (record_of 2 (0xD7 ∷ 0x1A ∷ 2 ∷ 6 ∷ 0 ∷ []) ++ record_of 4 (1 ∷ 0 ∷ [])) ≡ Kept 0 12 ∷ Kept 12 9 ∷ []
unfolding record_of total agrees skips stretch_at end_of with_rest stretches_from
sound_head = refl

-- the same two with the first byte damaged: the payload's head is taken, and the second record is not kept
head_gone : listing (0xD6 ∷ 0x1A ∷ 2 ∷ 5 ∷ 0 ∷ 0xD7 ∷ 0x1A ∷ 2 ∷ 6 ∷ 0 ∷ 0 ∷ 1 ∷ record_of 4 (1 ∷ 0 ∷ [])) ≡ Skipped 0 5 ∷ Kept 5 13 ∷ Skipped 18 3 ∷ []
unfolding record_of total agrees skips stretch_at end_of with_rest stretches_from
head_gone = refl

-- a false record within an intact one: that of five stray bytes covers the start of the good record behind them, in whose payload another stands; the good one is not kept
within_intact : listing (0xD7 ∷ 0x1A ∷ 4 ∷ 5 ∷ 0 ∷ record_of 3 (6 ∷ 1 ∷ record_of 2 [])) ≡ Kept 0 12 ∷ Kept 12 7 ∷ Skipped 19 2 ∷ []
unfolding record_of total agrees skips stretch_at end_of with_rest stretches_from
within_intact = refl
