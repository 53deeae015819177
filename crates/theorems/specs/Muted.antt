-- Document 02, R-1, computed on one channel: Linear, fixed input 1, r 1, m 1, in blocks of one sample, switched on, off, off and on again. Definitions only.
-- proofs/Muted.antt shows that what the definitions give is what stands here.
use Rattle.std.specs.Prelude.{List, [], ◌∷◌, ℕ, Float, replicate}
use Rattle.exact.specs.Doubles.{count, one_f}
use Rattle.error.specs.Refusals.{Said, given, refused}
use Rattle.asynchro_fast.specs.declared.PolynomialDegree.TheVariants.{Linear}
use Rattle.kinds.specs.declared.Kind.TheVariants.{Polynomial}
use Rattle.sizes.specs.declared.FixedAsync.TheVariants.{Input}
use Rattle.state.specs.declared.State.{State}
use Rattle.construction.specs.Construction.{construct}
use Rattle.process.specs.declared.Sizes.{Sizes}
use Rattle.process.specs.Block.{Block, block_of}
use Rattle.theorems.specs.Bench.{wholes, zeros}

-- a block: its mask and its one sample
pub record Turn : Type 0 where
  pub mask : ℕ
  pub sample : Float

-- what it leaves: the output area, lent with 7 for each needed frame, and the working area
pub record Left : Type 0 where
  pub output : List Float
  pub work : List Float

abbrev pub run : State → Turn → List Float → Block Sizes
run s t work = block_of s 1 t.mask [] (t.sample ∷ []) (replicate s.output (count 7)) work

-- one block after the other, each on the record and the working area that the last one left
abbrev pub runs : State → List Float → List Turn → List Left
runs s work [] = []
runs s work (t ∷ ts) = record { output = (run s t work).output; work = (run s t work).work } ∷ runs (run s t work).state (run s t work).work ts

abbrev pub turns : List Turn
turns =
    record { mask = 1; sample = count 1 } ∷ record { mask = 0; sample = count 2 } ∷ record { mask = 0; sample = count 3 }
    ∷ record { mask = 1; sample = count 4 } ∷ []

abbrev pub begun : Said State → List Left
begun (given s) = runs s (zeros s) turns
begun (refused n vs) = []

abbrev pub gives : List Left
gives = begun (construct one_f one_f (Polynomial Linear) 1 1 Input)

-- the moves go on while the channel is off, with nothing read: the sample 1 is the frame when it is back, and the frame between stays 7
abbrev pub found : List Left
found =
    record { output = []; work = wholes (0 ∷ 0 ∷ 0 ∷ 0 ∷ 1 ∷ []) }
    ∷ record { output = []; work = wholes (0 ∷ 0 ∷ 0 ∷ 1 ∷ 1 ∷ []) }
    ∷ record { output = wholes (7 ∷ []); work = wholes (0 ∷ 0 ∷ 1 ∷ 1 ∷ 1 ∷ []) }
    ∷ record { output = wholes (1 ∷ []); work = wholes (0 ∷ 1 ∷ 1 ∷ 1 ∷ 4 ∷ []) }
    ∷ []
