-- What a turn of a loop over the frames asks of a frame's grid points: nothing that a reader needs to believe, for no promise goes through it. Definitions only.
use Rattle.std.specs.Prelude.{ℕ, ◌+◌, ◌*◌, ◌≤◌, Option, Some, None}
use Rattle.grid_places.specs.declared.Spot.{Spot}
use Rattle.grid_places.specs.declared.Spots.{Spots}
use Rattle.grid_places.specs.declared.Spots.TheVariants.{One, Two, Three, Four}

-- of a grid point of l samples: these lie within n samples, and its row within a table of m
abbrev pub Fits : ℕ → ℕ → ℕ → Option Spot → Type 0
Fits l n m (Some a) = (a.start + l ≤ n) × (a.row * l + l ≤ m)
Fits l n m None = Unit

abbrev pub FitAll : ℕ → ℕ → ℕ → Option Spots → Type 0
FitAll l n m (Some (One a)) = Fits l n m a
FitAll l n m (Some (Two a b x)) = Fits l n m a × Fits l n m b
FitAll l n m (Some (Three a b c x)) = Fits l n m a × Fits l n m b × Fits l n m c
FitAll l n m (Some (Four a b c d x)) = Fits l n m a × Fits l n m b × Fits l n m c × Fits l n m d
FitAll l n m None = Unit
