-- Document 01, "Block run": "The mask has one bit a channel and none above." Definitions only.
use Rattle.std.specs.Prelude.{Bool, true, false, ℕ, ◌/◌, ◌%◌, ◌^◌, eqb}

-- the channel c is switched on
abbrev pub is_on : ℕ → ℕ → Bool
is_on mask c = eqb (mask / 2 ^ c % 2) 1

-- no bit at or above the channels
abbrev pub mask_fits : ℕ → ℕ → Bool
mask_fits mask channels = eqb (mask / 2 ^ channels) 0

-- `new` where the channel is switched on, `old` where it is off
abbrev pub where_on : {A : Type 0} → Bool → A → A → A
where_on true new old = new
where_on false new old = old
