-- Document 02, R-13, "In the log": the payloads of a pass's calls. Definitions only.
use Rattle.std.specs.Prelude.{cond, List, ◌++◌, ℕ, eqb, Float}
use Rattle.std.specs.Float.{binary64}
use Rattle.std.specs.Float.Ieee.{to_bits}
use Rattle.exact.specs.Doubles.{zero_f}
use Rattle.samples.specs.Samples.{bytes_from, eight_of}

-- "construction's and reset's is the bits of the start index"
abbrev pub start_payload : Float → List ℕ
start_payload index = eight_of (to_bits binary64 index)

-- "d (0 if no frames)"
abbrev pub increment : ℕ → Float → Float
increment output d = cond (eqb output 0) zero_f d

-- "a block's payload is its output and input size (four bytes each), then the bits of t, d .. and the index after it"
abbrev pub block_payload : ℕ → ℕ → Float → Float → Float → List ℕ
block_payload output input t d index =
    bytes_from output 0 4 ++ bytes_from input 0 4 ++ eight_of (to_bits binary64 t) ++ eight_of (to_bits binary64 (increment output d)) ++ eight_of (to_bits binary64 index)

-- "a setting's is free": here a byte for what is set, and eight of its value
abbrev pub setting_payload : ℕ → ℕ → List ℕ
setting_payload what value = bytes_from what 0 1 ++ eight_of value
