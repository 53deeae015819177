-- Two outcomes of a block or of a reset that one promise allows are equal. Assumes nothing.
use mathlib.Core.List.{List}
use mathlib.Core.Path.{◌≡◌, ap}
use lib.Ieee.{Float}
use Rattle.asynchro.specs.declared.Outcome.{Outcome}
use Rattle.asynchro.proofs.Settled.{outcome_settled}
use Rattle.process.specs.declared.Sizes.{Sizes}
use Rattle.process.specs.Block.{Block, Reset, block_left, reset_left}

-- the block: the outcome and both areas
pub block_settled : (o p : Outcome Sizes) (output output' work work' : List Float) → block_left o output work ≡ block_left p output' work' → (o ≡ p) × (output ≡ output') × (work ≡ work')
block_settled o p output output' work work' e = (
  outcome_settled o p (ap (λ (b : Block Sizes). record { state = b.state; said = b.said }) e),
  ap (λ (b : Block Sizes). b.output) e,
  ap (λ (b : Block Sizes). b.work) e,
)

-- reset: the outcome and the working area
pub reset_settled : (o p : Outcome Unit) (work work' : List Float) → reset_left o work ≡ reset_left p work' → (o ≡ p) × (work ≡ work')
reset_settled o p work work' e = (
  outcome_settled o p (ap (λ (r : Reset). record { state = r.state; said = r.said }) e),
  ap (λ (r : Reset). r.work) e,
)
