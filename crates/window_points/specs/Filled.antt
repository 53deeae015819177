-- What a call that fills a lent area leaves: what it says, and the area. Definitions only.
use Rattle.std.specs.Prelude.{ℕ, zero, suc, List, [], ◌∷◌, ◌++◌, Float, Result}
use Rattle.error.specs.Refusals.{Said, given, refused, said_result}
use Rattle.error.specs.declared.Refusal.{Refusal}

-- f 0, f 1, .., f (n - 1)
unfoldable pub listed : (ℕ → Float) → ℕ → List Float
listed f zero = []
listed f (suc n) = listed f n ++ (f n ∷ [])

pub record Filled : Type 0 where
  pub said : Said Unit
  pub area : List Float

-- the area filled, or on a refusal as it was
abbrev pub filled_or : List Float → List Float → Said Unit → Filled
filled_or old new (given u) = record { said = given u; area = new }
filled_or old new (refused n vs) = record { said = refused n vs; area = old }

-- the answer in document 01's words
abbrev pub said_built : Result Unit Refusal → Said Unit
said_built r = said_result r

-- what a call left: its answer, and the area at its end
abbrev pub built_left : Result Unit Refusal → List Float → Filled
built_left r area = record { said = said_built r; area = area }
