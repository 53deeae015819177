-- What the functions of the total answer. Definitions only.
use Rattle.std.specs.Prelude.{Bool, true, false, ◌&&◌, ◌⊎◌, ◌≡◌, ◌+◌, Option, Some, None}
use Rattle.exact.specs.Whole.{Whole}
use Rattle.big.specs.declared.Big.{Big}
use Rattle.positions.specs.Positions.{plain, HeldIf}
use Rattle.lines.specs.declared.Line.{Line}
use Rattle.lines.specs.Lines.{is_count, figures_of}
use Rattle.sheets.specs.declared.Total.{Total}
use Rattle.sheets.specs.Sheet.{Sums, plus, sums_fit, sums_of}

-- the total where it fits, and None where it does not
abbrev pub SumIf : Bool → Sums → Option Total → Type 0
SumIf ok s (Some t) = (ok ≡ true) × (sums_of t ≡ s)
SumIf ok s None = ok ≡ false

abbrev pub SummedBy : Total → Line → Option Total → Type 0
SummedBy t l r = SumIf (sums_fit (plus (sums_of t) (figures_of l))) (plus (sums_of t) (figures_of l)) r

-- a total with a line's counts
abbrev pub CountedBy : Total → Line → Option Total → Type 0
CountedBy t l (Some m) =
    (m.frames ≡ t.frames + l.frames) × (m.blocks ≡ t.blocks + l.blocks) × (is_count (t.frames + l.frames) ≡ true) × (is_count (t.blocks + l.blocks) ≡ true)
CountedBy t l None = (is_count (t.frames + l.frames) ≡ false) ⊎ (is_count (t.blocks + l.blocks) ≡ false)

-- a total with its counts, and positions that are held where both tests pass
abbrev pub PlacedBy : Total → Option Big → Option Big → Option Total → Type 0
PlacedBy m exactly stored r =
    (a b : Bool) (v w : Whole) → HeldIf a v exactly → HeldIf b w stored → SumIf (a && b) (record { frames = m.frames; blocks = m.blocks; exactly = plain v; stored = plain w }) r
