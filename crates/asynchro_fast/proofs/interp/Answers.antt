-- `interp` chooses the kernel of the degree, whose number of samples the caller gives. Assumes nothing.
use mathlib.Core.Path.{◌≡◌, ap, ◌∙◌}
use native.Mathlib.Omega.{arith}
use lib.ListN.{length}
use Rattle.asynchro_fast.specs.Degrees.{points_of}
use Rattle.asynchro_fast.specs.Kernels.{interp_of}
use Rattle.asynchro_fast.proofs.interp.Goals as goal

pub bounds-ys-0 : goal.bounds-ys-0
bounds-ys-0 c = let l : length c.args.ys.now ≡ 1 = c.requires ∙ ap points_of c.in-Nearest.is in
    omega arith

pub linear_of-requires : goal.linear_of-requires
linear_of-requires c = c.requires ∙ ap points_of c.in-Linear.is

pub cubic_of-requires : goal.cubic_of-requires
cubic_of-requires c = c.requires ∙ ap points_of c.in-Cubic.is

pub quintic_of-requires : goal.quintic_of-requires
quintic_of-requires c = c.requires ∙ ap points_of c.in-Quintic.is

pub septic_of-requires : goal.septic_of-requires
septic_of-requires c = c.requires ∙ ap points_of c.in-Septic.is

pub returns-in-Nearest : goal.returns-in-Nearest
unfolding interp_of
returns-in-Nearest c = rw c.in-Nearest.is

pub returns-in-Linear : goal.returns-in-Linear
unfolding interp_of
returns-in-Linear c = rw c.in-Linear.is c.linear_of.ensures

pub returns-in-Cubic : goal.returns-in-Cubic
unfolding interp_of
returns-in-Cubic c = rw c.in-Cubic.is c.cubic_of.ensures

pub returns-in-Quintic : goal.returns-in-Quintic
unfolding interp_of
returns-in-Quintic c = rw c.in-Quintic.is c.quintic_of.ensures

pub returns-in-Septic : goal.returns-in-Septic
unfolding interp_of
returns-in-Septic c = rw c.in-Septic.is c.septic_of.ensures
