-- `path::inner_span` meets its contract. Assumes nothing.
use Prim.Native.Nat.{◌≤◌}
use native.Mathlib.Omega.{arith}
use Rattle.path.proofs.Places.{shift_small, last_small}
use Rattle.path.proofs.Sites.{inner_kernel, inner_grid, grid_sized}
use Rattle.path.proofs.inner_span.Goals as goal
use Rattle.path.proofs.inner_span.Goals.{In-Sinc}

-- the points of a sinc that passes its test
sized : (c : In-Sinc) → (8 ≤ c.in-Sinc.points) × (c.in-Sinc.points ≤ 256)
sized c = grid_sized c.args.kind _ _ _ c.in-Sinc.is c.requires.0

pub span_of-requires : goal.span_of-requires
span_of-requires c = let degree = c.in-Polynomial.degree in
    omega (arith, c.last_of-last.ensures, c.shift_of-shift.ensures, shift_small degree, last_small degree c.args.needed c.requires.1)

pub overflow_mul-shift : goal.overflow_mul-shift
overflow_mul-shift c = omega (arith, sized c)

pub overflow_sub-shift : goal.overflow_sub-shift
overflow_sub-shift c = omega (arith, sized c)

pub overflow_add-last : goal.overflow_add-last
overflow_add-last c = omega (arith, sized c)

pub overflow_sub-last : goal.overflow_sub-last
overflow_sub-last c = omega (arith, sized c)

pub span_of-requires-in-Sinc : goal.span_of-requires-in-Sinc
span_of-requires-in-Sinc c = omega (arith, sized c)

pub returns-in-Polynomial : goal.returns-in-Polynomial
returns-in-Polynomial c = inner_kernel c.args.kind _ c.args.needed _ _ _ c.in-Polynomial.is c.shift_of-shift.ensures c.last_of-last.ensures c.span_of.ensures

pub returns-in-Sinc : goal.returns-in-Sinc
returns-in-Sinc c = inner_grid c.args.kind _ _ _ c.args.needed _ c.in-Sinc.is c.span_of-in-Sinc.ensures
