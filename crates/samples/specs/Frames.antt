-- Interleaved frames in bytes, and an area "channel after channel". Definitions only.
use Rattle.std.specs.Prelude.{List, ℕ, zero, suc, ◌+◌, ◌*◌, ◌/◌, ◌%◌, Float, get_or, set}
use Rattle.std.specs.Float.{binary64}
use Rattle.std.specs.Float.Ieee.{to_bits}
use Rattle.std.proofs.Math.Seq.{paste}
use Rattle.exact.specs.Doubles.{zero_f}
use Rattle.samples.specs.Samples.{sample_at, eight_of}

-- the sample number k of interleaved frames is of the channel k % channels and the frame k / channels
abbrev pub place_of : ℕ → ℕ → ℕ → ℕ
place_of channels share k = k % channels * share + k / channels

-- w with n samples of the bytes as its samples number `first` and on
unfoldable pub spread_to : ℕ → ℕ → ℕ → List ℕ → List Float → ℕ → List Float
spread_to channels share first bs w zero = w
spread_to channels share first bs w (suc j) = set (spread_to channels share first bs w j) (place_of channels share (first + j)) (sample_at bs (8 * j))

-- bs with the bytes of n samples of w, number `first` and on, at its front
unfoldable pub gathered_to : ℕ → ℕ → ℕ → List Float → List ℕ → ℕ → List ℕ
gathered_to channels share first w bs zero = bs
gathered_to channels share first w bs (suc j) = paste (gathered_to channels share first w bs j) (8 * j) (eight_of (to_bits binary64 (get_or w (place_of channels share (first + j)) zero_f))) 8
