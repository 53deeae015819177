-- A pass is cut to its input: a frame is kept when its position, the input frames used before the block plus the frame's index, lies from -2^-20 up to, and not including, the number of input frames less 2^-20. Definitions only.
-- proofs/Frames.antt says the same of the exact positions: no rounding enters the comparisons.
use Rattle.std.specs.Prelude.{ℕ, zero, suc, ◌-◌, min, Bool, cond, from_bits, nat_le, Float}
use Rattle.std.specs.Float.{binary64}
use Rattle.std.specs.Float.Ieee.{neg, lt}
use Rattle.exact.specs.Doubles.{◌-f◌, count}
use Rattle.state.specs.declared.State.{State}
use Rattle.state.specs.Record.{step_now_of}
use Rattle.path.specs.Path.{path_at}
use Rattle.plan.specs.Plan.{increment_of}
use Rattle.cut.specs.declared.KeptFrames.{KeptFrames}

-- 2^-20
abbrev pub margin_f : Float
margin_f = from_bits binary64 0x3eb0_0000_0000_0000

-- The index of the position edge - 2^-20 in a block before which so many input frames were used. Past 2^18, where no index lies, it stays at that.
abbrev pub limit_of : ℕ → ℕ → Float
limit_of used edge = cond (nat_le edge used) (neg margin_f -f count (min (used - edge) 262144)) (count (min (edge - used) 262144) -f margin_f)

-- of the n frames from frame f on, how many come before the first one whose index is not below the limit
unfoldable pub leading : Float → Float → Float → Float → ℕ → ℕ → ℕ
unfolding path_at
leading t d i limit f zero = 0
leading t d i limit f (suc n) = cond (lt (path_at t d i (suc f)).index limit) (suc (leading t d i limit (suc f) n)) 0

-- the block's frames before the position edge - 2^-20
abbrev pub before : State → ℕ → ℕ → ℕ
before s used edge = leading (step_now_of s) (increment_of s) s.index (limit_of used edge) 0 s.output

-- From the first frame that is not before the input up to, and not including, the first one past it, which is known once the input has ended.
-- The index is that of the frame `from`; where the block has no such frame, the one that its next frame would have.
abbrev pub kept_of : State → ℕ → Bool → ℕ → KeptFrames
kept_of s used ended total =
    record {
      from = before s used 0;
      to = cond ended (before s used total) s.output;
      index = (path_at (step_now_of s) (increment_of s) s.index (suc (before s used 0))).index;
    }
