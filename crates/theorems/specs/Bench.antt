-- Document 01, "Bench cases": the twelve, in one table, over the definitions that the public calls are proved equal to. Definitions only.
-- A row has what the definitions give and what document 01 has under "Found". proofs/Bench.antt shows the one fact about the table: in each row the two are equal.
use Rattle.std.specs.Prelude.{true, false, List, [], ◌∷◌, ◌++◌, map, ℕ, ℤ, pos, Float, replicate}
use Rattle.std.specs.Float.Ieee.{neg, of_bits}
use Rattle.std.specs.Float.{binary64}
use Rattle.exact.specs.Doubles.{count, zero_f, one_f, half_f}
use Rattle.error.specs.Refusals.{Said, given, refused}
use Rattle.asynchro_fast.specs.declared.PolynomialDegree.{PolynomialDegree}
use Rattle.asynchro_fast.specs.declared.PolynomialDegree.TheVariants.{Nearest, Linear, Septic}
use Rattle.kinds.specs.declared.Kind.TheVariants.{Polynomial}
use Rattle.asynchro_sinc.specs.Blends.{blend_said, sinc_quad}
use Rattle.interpolation.specs.declared.Point.{Point}
use Rattle.interpolation.specs.Grid.{nearest2, nearest4}
use Rattle.sizes.specs.declared.FixedAsync.TheVariants.{Input, Output}
use Rattle.state.specs.declared.State.{State}
use Rattle.construction.specs.Construction.{construct}
use Rattle.asynchro.specs.Calls.{Left, set_ratio}
use Rattle.process.specs.declared.Sizes.{Sizes}
use Rattle.shape.specs.Shape.{stride_of}
use Rattle.plan.specs.Plan.{increment_of}
use Rattle.process.specs.Block.{Block, block_of}

-- what a case speaks of: sizes, doubles, grid points, refusals
pub data Item : Type 0 where
  size : ℕ → Item
  double : Float → Item
  point : ℤ → ℕ → Item
  accepted : Item
  refusal : ℕ → Item

-- a row of the table: its number, what the definitions give, what document 01 found
pub record Case : Type 0 where
  pub number : ℕ
  pub gives : List Item
  pub found : List Item

-- ---- reading what a call says
abbrev pub said_items : {A : Type 0} → (A → List Item) → Said A → List Item
said_items f (given a) = f a
said_items f (refused n vs) = refusal n ∷ []

-- the record that a construction gives; where it is refused, the case's row shows the refusal
abbrev pub built : Said State → (State → List Item) → List Item
built c f = said_items f c

abbrev pub setting_said : Left Unit → List Item
setting_said r = said_items (λ u. accepted ∷ []) r.said

abbrev pub block_said : Block Sizes → List Item
block_said b = said_items (λ z. accepted ∷ []) b.said

-- a block of one channel, switched on, with all its needed input, no table, on a working area: the frames of `input` and room for the needed output
abbrev pub block_on : State → List Float → List Float → Block Sizes
block_on s input work = block_of s s.input 1 [] input (replicate s.output zero_f) work

abbrev pub silence : State → List Float
silence s = replicate s.input zero_f

abbrev pub zeros : State → List Float
zeros s = replicate (stride_of s) zero_f

-- the first block of a record, on silence and a working area of zeros
abbrev pub first_block : State → Block Sizes
first_block s = block_on s (silence s) (zeros s)

-- ---- the doubles of the table
abbrev pub sixteenth_f : Float
sixteenth_f = of_bits binary64 0x3fb0_0000_0000_0000

abbrev pub quarter_f : Float
quarter_f = of_bits binary64 0x3fd0_0000_0000_0000

abbrev pub wholes : List ℕ → List Float
wholes = map count

abbrev pub doubles : List Float → List Item
doubles = map double

-- ---- the rows
-- 1: Septic, fixed input 1024, r 1/16, m 16: out 63; then index -20, out 64
abbrev pub septic_made : Said State
septic_made = construct sixteenth_f (count 16) (Polynomial Septic) 1024 1 Input

abbrev pub case_1 : Case
case_1 = record {
  number = 1;
  gives = built septic_made (λ s. size s.output ∷ double (first_block s).state.index ∷ size (first_block s).state.output ∷ []);
  found = size 63 ∷ double (neg (count 20)) ∷ size 64 ∷ [];
}

-- 2: then ratio 1, no ramp: out 1035; the block is refused 9
-- the output size of a record, and what a block on the working area `work` says
abbrev pub next_block : State → List Float → List Item
next_block s work = size s.output ∷ block_said (block_on s (silence s) work)

-- after the block b of case 1: its record set to ratio 1, and the working area that it left lent to the next block
abbrev pub at_ratio1 : Block Sizes → List Item
at_ratio1 b = next_block (set_ratio b.state one_f false).state b.work

abbrev pub case_2 : Case
case_2 = record {
  number = 2;
  gives = built septic_made (λ s. at_ratio1 (first_block s));
  found = size 1035 ∷ refusal 9 ∷ [];
}

-- 3: Linear, fixed output 4, r 1, m 1: in 5; then index -2, in 4
abbrev pub linear_made : Said State
linear_made = construct one_f one_f (Polynomial Linear) 4 1 Output

abbrev pub case_3 : Case
case_3 = record {
  number = 3;
  gives = built linear_made (λ s. size s.input ∷ double (first_block s).state.index ∷ size (first_block s).state.input ∷ []);
  found = size 5 ∷ double (neg (count 2)) ∷ size 4 ∷ [];
}

-- 4: case 3 on 10,20,30,40,50 then 60,70,80,90: 10,20,30,40 then 50,60,70,80
abbrev pub two_blocks : State → Block Sizes → List Item
two_blocks s b = doubles b.output ++ doubles (block_on b.state (wholes (60 ∷ 70 ∷ 80 ∷ 90 ∷ [])) b.work).output

abbrev pub case_4 : Case
case_4 = record {
  number = 4;
  gives = built linear_made (λ s. two_blocks s (block_on s (wholes (10 ∷ 20 ∷ 30 ∷ 40 ∷ 50 ∷ [])) (zeros s)));
  found = doubles (wholes (10 ∷ 20 ∷ 30 ∷ 40 ∷ [])) ++ doubles (wholes (50 ∷ 60 ∷ 70 ∷ 80 ∷ []));
}

-- 5: Nearest, fixed output 3, r 2, m 1, input a,b: in 2; a,a,b; index -1
abbrev pub nearest_block : State → Block Sizes → List Item
nearest_block s b = size s.input ∷ doubles b.output ++ (double b.state.index ∷ [])

abbrev pub case_5 : Float → Float → Case
case_5 a b = record {
  number = 5;
  gives = built (construct (count 2) one_f (Polynomial Nearest) 3 1 Output) (λ s. nearest_block s (block_on s (a ∷ b ∷ []) (zeros s)));
  found = size 2 ∷ double a ∷ double a ∷ double b ∷ double (neg one_f) ∷ [];
}

-- 6: Linear, fixed output 4, m 2, ramp 1 to 0.5: in 8, d 0.25, index -2.5
abbrev pub ramped : State → List Item
ramped s = size s.input ∷ double (increment_of s) ∷ double (first_block s).state.index ∷ []

abbrev pub case_6 : Case
case_6 = record {
  number = 6;
  gives = built (construct one_f (count 2) (Polynomial Linear) 4 1 Output) (λ s. ramped (set_ratio s half_f true).state);
  found = size 8 ∷ double quarter_f ∷ double (of_bits binary64 0xc004_0000_0000_0000) ∷ [];
}

-- 7: Septic, fixed input 1, r 1, m 1: out 0; index -5
abbrev pub case_7 : Case
case_7 = record {
  number = 7;
  gives = built (construct one_f one_f (Polynomial Septic) 1 1 Input) (λ s. size s.output ∷ double (first_block s).state.index ∷ []);
  found = size 0 ∷ double (neg (count 5)) ∷ [];
}

-- 8: fixed output 65,536, r 0.5, m 1: refused 6
abbrev pub case_8 : PolynomialDegree → Case
case_8 degree = record { number = 8; gives = built (construct half_f one_f (Polynomial degree) 65536 1 Output) (λ s. []); found = refusal 6 ∷ [] }

-- 9: Linear, fixed output 4, r 1, m 2, settings 0.5, 2, 2.5: yes, yes, refused 4
-- one after the other, each on the record that the last one left
abbrev pub settings : State → List Float → List Item
settings s [] = []
settings s (r ∷ rs) = setting_said (set_ratio s r false) ++ settings (set_ratio s r false).state rs

abbrev pub case_9 : Case
case_9 = record {
  number = 9;
  gives = built (construct one_f (count 2) (Polynomial Linear) 4 1 Output) (λ s. settings s (half_f ∷ count 2 ∷ of_bits binary64 0x4004_0000_0000_0000 ∷ []));
  found = accepted ∷ accepted ∷ refusal 4 ∷ [];
}

-- 10: four points, t 2.75, factor 4: (2,2) (2,3) (3,0) (3,1)
abbrev pub points : Said (List Point) → List Item
points = said_items (map (λ p. point p.index p.subindex))

abbrev pub case_10 : Case
case_10 = record {
  number = 10;
  gives = points (nearest4 (of_bits binary64 0x4006_0000_0000_0000) 4);
  found = point (pos 2) 2 ∷ point (pos 2) 3 ∷ point (pos 3) 0 ∷ point (pos 3) 1 ∷ [];
}

-- 11: two points, t -2^-60, factor 4: (0,0) (0,1)
abbrev pub case_11 : Case
case_11 = record {
  number = 11;
  gives = points (nearest2 (of_bits binary64 0xbc30_0000_0000_0000) 4);
  found = point (pos 0) 0 ∷ point (pos 0) 1 ∷ [];
}

-- 12: quadratic, x 0.5 on 0,1,4: 0.25
abbrev pub case_12 : Case
case_12 = record {
  number = 12;
  gives = said_items (λ v. double v ∷ []) (blend_said 3 sinc_quad half_f (wholes (0 ∷ 1 ∷ 4 ∷ [])));
  found = double quarter_f ∷ [];
}

-- the table; a and b of case 5 are any samples, the degree of case 8 is any
unfoldable pub bench : Float → Float → PolynomialDegree → List Case
bench a b degree = case_1 ∷ case_2 ∷ case_3 ∷ case_4 ∷ case_5 a b ∷ case_6 ∷ case_7 ∷ case_8 degree ∷ case_9 ∷ case_10 ∷ case_11 ∷ case_12 ∷ []
