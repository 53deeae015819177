-- `path::site_of` meets its contract. Assumes nothing.
use Prim.Native.Nat.{◌+◌, ◌*◌, ◌<◌}
use native.Mathlib.Omega.{arith}
use Rattle.path.proofs.Places.{shift_small, last_small}
use Rattle.path.proofs.Sites.{site_kernel, site_grid, grid_small}
use Rattle.path.proofs.site_of.Goals as goal
use Rattle.path.proofs.site_of.Goals.{In-Sinc}

-- the places of a sinc's grid points stay small
small : (c : In-Sinc) → (2 * c.in-Sinc.points < 131072) × (c.in-Sinc.points + c.args.needed < 131072)
small c = grid_small c.args.kind _ _ _ c.args.needed c.in-Sinc.is c.requires.0 c.requires.1

pub place_of-requires : goal.place_of-requires
place_of-requires c = let degree = c.in-Polynomial.degree in
    omega (arith, c.last_of-last.ensures, c.shift_of-shift.ensures, shift_small degree, last_small degree c.args.needed c.requires.1)

pub overflow_mul-shift : goal.overflow_mul-shift
overflow_mul-shift c = omega (arith, small c)

pub overflow_add-last : goal.overflow_add-last
overflow_add-last c = omega (arith, small c)

pub spots_of-requires : goal.spots_of-requires
spots_of-requires c = small c

pub returns-in-Polynomial : goal.returns-in-Polynomial
returns-in-Polynomial c = site_kernel c.args.kind _ c.args.needed _ _ _ _ c.in-Polynomial.is c.shift_of-shift.ensures c.last_of-last.ensures c.place_of.ensures

pub returns-in-Sinc : goal.returns-in-Sinc
returns-in-Sinc c = site_grid c.args.kind _ _ _ c.args.needed _ _ c.in-Sinc.is c.spots_of.ensures
