-- Document 02, R-4, computed on one channel: a sinc of 8 points, factor 3, blend Linear, fixed output 2, r 4, m 1; one block, on a working area of zeros. Definitions only.
-- proofs/Sinc.antt shows that what the definitions give is what stands here.
use Rattle.std.specs.Prelude.{List, [], ◌∷◌, ◌++◌, Float, replicate}
use Rattle.std.specs.Float.{binary64}
use Rattle.std.specs.Float.Ieee.{of_bits}
use Rattle.exact.specs.Doubles.{count, zero_f, one_f}
use Rattle.asynchro_sinc.specs.declared.SincInterpolationType.TheVariants.{Linear}
use Rattle.kinds.specs.declared.Kind.TheVariants.{Sinc}
use Rattle.sizes.specs.declared.FixedAsync.TheVariants.{Output}
use Rattle.state.specs.declared.State.{State}
use Rattle.construction.specs.Construction.{construct}
use Rattle.process.specs.declared.Sizes.{Sizes}
use Rattle.process.specs.Block.{Block, block_of}
use Rattle.theorems.specs.Bench.{Item, size, double, built, doubles, wholes, zeros}

-- three rows: the first picks the fifth of 8 samples, the next the sixth, the last the seventh
abbrev pub table : List Float
table =
    wholes (0 ∷ 0 ∷ 0 ∷ 0 ∷ 1 ∷ 0 ∷ 0 ∷ 0 ∷ [])
    ++ wholes (0 ∷ 0 ∷ 0 ∷ 0 ∷ 0 ∷ 1 ∷ 0 ∷ 0 ∷ [])
    ++ wholes (0 ∷ 0 ∷ 0 ∷ 0 ∷ 0 ∷ 0 ∷ 1 ∷ 0 ∷ [])

-- the needed input, the two frames and the index that is left
abbrev pub ran : State → Block Sizes → List Item
ran s b = size s.input ∷ doubles b.output ++ (double b.state.index ∷ [])

abbrev pub gives : List Item
gives = built (construct (count 4) one_f (Sinc 8 3 Linear) 2 1 Output) (λ s. ran s (block_of s s.input 1 table (wholes (10 ∷ 20 ∷ 30 ∷ 40 ∷ 50 ∷ [])) (replicate s.output zero_f) (zeros s)))

-- The index goes from -4 to -3.75 and -3.5: both have their samples from place 12 on, of which the fifth is the first of the input.
-- -3.75 * 3 = -11.25 has the rows 0 and 1 and the blend place 0.75, so 10 + 0.75 * 10; -3.5 * 3 = -10.5 has the rows 1 and 2 and the place 0.5, so 20 + 0.5 * 10
abbrev pub found : List Item
found = size 5 ∷ double (of_bits binary64 0x4031_8000_0000_0000) ∷ double (count 25) ∷ double (of_bits binary64 0xc021_0000_0000_0000) ∷ []
