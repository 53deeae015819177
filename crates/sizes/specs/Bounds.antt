-- Document 01, "Numbers that bound the build". Definitions only.
use Rattle.std.specs.Prelude.{ℕ, Bool, ◌&&◌, from_bits, nat_le, Float}
use Rattle.std.specs.Float.{binary64}
use Rattle.std.specs.Float.Ieee.{lt, le}

-- 1/256 and 256
abbrev pub least_f : Float
least_f = from_bits binary64 0x3f70_0000_0000_0000

abbrev pub most_f : Float
most_f = from_bits binary64 0x4070_0000_0000_0000

-- -2 ^ 17 and 2 ^ 17
abbrev pub low_f : Float
low_f = from_bits binary64 0xc100_0000_0000_0000

abbrev pub high_f : Float
high_f = from_bits binary64 0x4100_0000_0000_0000

-- "Every ratio in use: 1/256 to 256, ends included."
abbrev pub is_ratio : Float → Bool
is_ratio r = le least_f r && le r most_f

-- "Every size: 0 to 65,536 frames."
abbrev pub is_size : ℕ → Bool
is_size n = nat_le n 65536

-- "Channels: 1 to 16."
abbrev pub is_channels : ℕ → Bool
is_channels n = nat_le 1 n && nat_le n 16

-- a chunk of a lent record: a size, and not 0, which no accepted call leaves
abbrev pub is_chunk : ℕ → Bool
is_chunk n = nat_le 1 n && is_size n

-- "index finite and strictly between -2^17 and 2^17"
abbrev pub is_index : Float → Bool
is_index i = lt low_f i && lt i high_f
