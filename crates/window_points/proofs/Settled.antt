-- Two outcomes of a call that fills a lent area which one promise allows are equal. Assumes nothing.
use Rattle.std.proofs.Common.{◌≡◌, List, ap}
use lib.Ieee.{Float}
use Rattle.std.specs.Prelude.{Result}
use Rattle.error.specs.declared.Refusal.{Refusal}
use Rattle.error.proofs.Settled.{result_settled}
use Rattle.window_points.specs.Filled.{Filled, built_left}

pub built_settled : (a b : Result Unit Refusal) (area area' : List Float) → built_left a area ≡ built_left b area' → (a ≡ b) × (area ≡ area')
built_settled a b area area' e = (result_settled a b (ap (λ (f : Filled). f.said) e), ap (λ (f : Filled). f.area) e)
