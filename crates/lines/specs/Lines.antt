-- Document 02, R-13: a line of the sheet, and what a start and a block do to it, of a log or of live calls. Definitions only.
-- Positions are counted in units of 2^-192, the bound too.
use Rattle.std.specs.Prelude.{Bool, true, false, cond, ◌&&◌, ℕ, ◌+◌, ◌*◌, ◌%◌, ◌^◌, leb, ltb, Float, Result, Ok, Err}
use Rattle.std.specs.Float.Ieee.{eq}
use Rattle.exact.specs.Doubles.{zero_f}
use Rattle.exact.specs.Whole.{Whole, ◌⊕◌, ◌⊙◌}
use Rattle.exact.specs.Running.{tri}
use Rattle.big.specs.Value.{value_of, full}
use Rattle.positions.specs.Positions.{one, plain, held_in, inside, apart, is_multiple, position_of}
use Rattle.positions.specs.declared.double.NoPosition.{NoPosition}
use Rattle.positions.specs.declared.double.NoPosition.TheVariants.{Beyond, Other}
use Rattle.lines.specs.declared.End.{End}
use Rattle.lines.specs.declared.End.TheVariants as end
use Rattle.lines.specs.declared.Line.{Line}

-- "Report per stream N, B, the exact position, the stored position": the line's figures, the input sizes answered, and the bound
pub record Figures : Type 0 where
  pub frames : ℕ
  pub blocks : ℕ
  pub inputs : ℕ
  pub exactly : Whole
  pub stored : Whole
  pub most : ℕ

-- "The exact position is the start index plus ..", and so is the stored one
abbrev pub opened : Whole → Figures
opened v = record { frames = 0; blocks = 0; inputs = 0; exactly = v; stored = v; most = 0 }

-- ".. for each block, n*t + d*n*(n+1)/2"; tri n is 1 + 2 + .. + n
abbrev pub move_of : ℕ → Float → Float → Whole
move_of n t d = n ⊙ position_of t ⊕ tri n ⊙ position_of d

-- "at most (N+B)/2^37, plus n*(n+1)/2^46 for each block whose d is not zero": what a block adds to it. -0.0 is a zero
abbrev pub allowed : ℕ → Float → ℕ
allowed n d = (n + 1) * 2 ^ 155 + cond (eq d zero_f) 0 (n * (n + 1) * 2 ^ 146)

-- a block of n frames out and c in, its starting step t, its increment d and the index i after it: what the line is then.
-- The bound is held in 256 bits; no line's reaches them (`most_is` of sheet_claims)
abbrev pub grown : Figures → ℕ → ℕ → Float → Float → Float → Figures
grown f n c t d i =
    record {
      frames = f.frames + n;
      blocks = f.blocks + 1;
      inputs = f.inputs + c;
      exactly = plain (f.exactly ⊕ move_of n t d);
      stored = plain (((f.inputs + c) * one, 0) ⊕ position_of i);
      most = (f.most + allowed n d) % full;
    }

-- ---- "Refusals: 23 when the whole part would leave a signed 64-bit number or a count a 64-bit one"
abbrev pub is_count : ℕ → Bool
is_count n = ltb n 18446744073709551616

-- of the block: its index, n*t, n(n+1)/2*d and the sum of these two
abbrev pub block_fits : ℕ → Float → Float → Float → Bool
block_fits n t d i = inside (position_of i) && (inside (n ⊙ position_of t) && (inside (tri n ⊙ position_of d) && inside (move_of n t d)))

-- of the line
abbrev pub figures_fit : Figures → Bool
figures_fit f = inside f.exactly && (inside f.stored && (is_count f.frames && is_count f.blocks))

-- ---- a line that goes on, or the word that it ends with
pub data Going : Type 0 where
  on : Figures → Going
  ended : End → Going

-- the word, unless the test passes
unfoldable pub check : Bool → End → Going → Going
check true e next = next
check false e next = ended e

-- a start with the index x: `float`, then `range`
abbrev pub started : Float → Going
started x = check (is_multiple x) end.Float (check (inside (position_of x)) end.Range (on (opened (position_of x))))

-- a block: `float` ("t, d or index not finite or no multiple of 2^-192"), then `range`
abbrev pub with_block : Figures → ℕ → ℕ → Float → Float → Float → Going
with_block f n c t d i =
    check (is_multiple t && (is_multiple d && is_multiple i)) end.Float
    (check (block_fits n t d i && figures_fit (grown f n c t d i)) end.Range
    (on (grown f n c t d i)))

-- ---- what is told of a line: "their distance", and whether it is inside the bound
abbrev pub distance_of : Figures → ℕ
distance_of f = apart f.exactly f.stored

abbrev pub is_inside : Figures → Bool
is_inside f = leb (distance_of f) f.most

-- ---- the code's line and answer in these words
abbrev pub figures_of : Line → Figures
figures_of l = record { frames = l.frames; blocks = l.blocks; inputs = l.inputs; exactly = held_in l.exactly; stored = held_in l.stored; most = value_of l.most }

abbrev pub going_of : Result Line End → Going
going_of (Ok l) = on (figures_of l)
going_of (Err e) = ended e

-- the word for a double that is no position
abbrev pub end_of : NoPosition → End
end_of Beyond = end.Range
end_of Other = end.Float
