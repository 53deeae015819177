-- Numbers of samples: which blocks are taken, and how far a piece of one goes. Definitions only.
use Rattle.std.specs.Prelude.{Bool, ◌&&◌, ℕ, ◌+◌, ◌*◌, ◌/◌, min, ltb, leb}

-- 1 to 16 channels and up to 65,536 frames, in an area that has room for them
unfoldable pub taken : ℕ → ℕ → ℕ → Bool
taken channels share room = ltb 0 channels && (leb channels 16 && (leb share 65536 && leb (channels * share) room))

-- the samples up to the end of a piece: behind those that are done as many as the buffer's bytes hold, and none past the block
abbrev pub up_to : ℕ → ℕ → ℕ → ℕ
up_to size done most = min (done + size / 8) most
