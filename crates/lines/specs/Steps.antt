-- What the functions of a line answer of doubles that are positions. Definitions only.
use Rattle.std.specs.Prelude.{Bool, true, false, not, cond, ◌&&◌, ◌⊎◌, ◌≡◌, ℕ, ◌+◌, ◌*◌, ◌%◌, ◌^◌, ◌<◌, Float, Option, Some, None, Result}
use Rattle.std.specs.Float.Ieee.{eq}
use Rattle.exact.specs.Doubles.{zero_f}
use Rattle.exact.specs.Whole.{Whole, ◌⊕◌, ◌⊙◌}
use Rattle.exact.specs.Running.{tri}
use Rattle.big.specs.declared.Big.{Big}
use Rattle.big.specs.Value.{value_of, full}
use Rattle.positions.specs.declared.double.NoPosition.{NoPosition}
use Rattle.positions.specs.Positions.{one, plain, held_in, inside, is_multiple, position_of, HeldIf, IsDouble}
use Rattle.lines.specs.declared.Line.{Line}
use Rattle.lines.specs.declared.Factors.{Factors}
use Rattle.lines.specs.Lines.{Figures, is_count, figures_of, grown, move_of, block_fits, figures_fit}

-- x is the double y, a multiple of 2^-192
abbrev pub IsPosition : Float → Result Big NoPosition → Type 0
IsPosition y x = IsDouble y x × (is_multiple y ≡ true)

-- whether x is no position
abbrev pub OtherBy : Result Big NoPosition → Bool → Type 0
OtherBy x r = (y : Float) → IsDouble y x → r ≡ not (is_multiple y)

-- 1 + 2 + .. + n in two factors, the second not 0
abbrev pub IsTriangle : ℕ → Factors → Type 0
IsTriangle n r = (r.j * r.k ≡ tri n) × (0 < r.k)

-- n*t + d*n*(n+1)/2, and its three tests
abbrev pub MovedBy : ℕ → Result Big NoPosition → Result Big NoPosition → Option Big → Type 0
MovedBy n step more r =
    (t d : Float) → IsPosition t step → IsPosition d more → HeldIf (inside (n ⊙ position_of t) && (inside (tri n ⊙ position_of d) && inside (move_of n t d))) (move_of n t d) r

-- the input sizes and the index, and the tests of the index and of the sum
abbrev pub StoredBy : ℕ → Result Big NoPosition → Option Big → Type 0
StoredBy inputs at r = (i : Float) → IsPosition i at → HeldIf (inside (position_of i) && inside ((inputs * one, 0) ⊕ position_of i)) ((inputs * one, 0) ⊕ position_of i) r

-- what a block adds to the bound, where d is zero or not
abbrev pub ramp_by : ℕ → Bool → ℕ
ramp_by n flat = cond flat 0 (n * (n + 1) * 2 ^ 146)

abbrev pub allowed_by : ℕ → Bool → ℕ
allowed_by n flat = (n + 1) * 2 ^ 155 + ramp_by n flat

-- a position with what a block moves it, where that is held
abbrev pub AfterBy : Big → Option Big → Option Big → Type 0
AfterBy before way r = (ok : Bool) (v : Whole) → HeldIf ok v way → HeldIf (ok && inside (held_in before ⊕ v)) (held_in before ⊕ v) r

-- a line with these figures where the test passes, and None where it fails
abbrev pub LineIf : Bool → Figures → Option Line → Type 0
LineIf ok f (Some l) = (ok ≡ true) × (figures_of l ≡ f)
LineIf ok f None = ok ≡ false

-- a line with a block's counts and bound; None where a count, or the input sizes, would be 2^64 or more
abbrev pub CountedBy : Line → ℕ → ℕ → Bool → Option Line → Type 0
CountedBy l n c flat (Some m) =
    (m.frames ≡ l.frames + n) × (m.blocks ≡ l.blocks + 1) × (m.inputs ≡ l.inputs + c) × (value_of m.most ≡ (value_of l.most + allowed_by n flat) % full)
    × (is_count (l.frames + n) ≡ true) × (is_count (l.blocks + 1) ≡ true)
CountedBy l n c flat None = (is_count (l.inputs + c) ≡ false) ⊎ ((is_count (l.frames + n) ≡ false) ⊎ (is_count (l.blocks + 1) ≡ false))

-- a line with its counts and bound, and positions that are held where both tests pass
abbrev pub PlacedBy : Line → Option Big → Option Big → Option Line → Type 0
PlacedBy m exactly stored r =
    (a b : Bool) (v w : Whole) → HeldIf a v exactly → HeldIf b w stored
    → LineIf (a && b) (record { frames = m.frames; blocks = m.blocks; inputs = m.inputs; exactly = plain v; stored = plain w; most = value_of m.most }) r

-- the line with a block whose three doubles are positions
abbrev pub GrownBy : Line → ℕ → ℕ → Result Big NoPosition → Result Big NoPosition → Result Big NoPosition → Bool → Option Line → Type 0
GrownBy l n c step more at flat r =
    (t d i : Float) → IsPosition t step → IsPosition d more → IsPosition i at → flat ≡ eq d zero_f
    → LineIf (block_fits n t d i && figures_fit (grown (figures_of l) n c t d i)) (grown (figures_of l) n c t d i) r
