-- What the functions inside the crate promise one another on the way to q. Definitions only.
use Rattle.std.specs.Prelude.{List, [], ◌∷◌, zero, suc, ◌-ℤ◌, ℕ, ◌<◌, ◌≤◌, Bool, cond, ℤ, pos, ◌+ℤ◌, ◌*ℤ◌, unsigned_abs, Float}
use Rattle.std.specs.Float.Ieee.{to_signed, to_unsigned}
use Rattle.exact.specs.Doubles.{◌*f◌, count}
use Rattle.whole.specs.Rounded.{floor_of, round_of, split_of}
use Rattle.interpolation.specs.declared.Inner.{Inner}
use Rattle.interpolation.specs.declared.Start.{Start}

-- floor(t) and the inner product, both from the split of t
abbrev pub inner_of : Float → ℕ → Inner
inner_of t factor = record { index = to_signed 63 (split_of t).floor; product = (split_of t).frac *f count factor }

-- the product made a whole number: the nearest one, a half away from zero, or its floor
abbrev pub whole_by : Bool → Float → Float
whole_by nearest = cond nearest round_of floor_of

-- where q lies, and q
abbrev pub begin_of : (Float → Float) → Float → ℕ → Start
begin_of how t factor = record { index = (inner_of t factor).index; parts = to_unsigned 64 (how (inner_of t factor).product) }

abbrev pub start_q : ℕ → Start → ℤ
start_q factor s = s.index *ℤ pos factor +ℤ pos s.parts

-- in range a start is no further off than 2 ^ 52, and has no more parts than a whole time: a fraction of 1.0 gives that many
abbrev pub Ready : ℕ → Start → Type 0
Ready factor s = (unsigned_abs s.index ≤ 4503599627370496) × (s.parts ≤ factor) × (0 < factor) × (factor ≤ 1048576)

-- the offsets from q of the n points from the one `ahead` places after q - 1 on
abbrev pub offsets : ℕ → ℕ → List ℤ
offsets zero ahead = []
offsets (suc n) ahead = (pos ahead -ℤ pos 1) ∷ offsets n (suc ahead)
