-- Document 01, "Kernels": the five kernels at x on their samples, the choice by the degree, and what a call answers. Definitions only.
use Rattle.std.specs.Prelude.{List, [], eqb, Float, length}
use Rattle.std.specs.Float.Ieee.{neg}
use Rattle.exact.specs.Doubles.{◌+f◌, ◌-f◌, ◌*f◌, half_f, third, sixth}
use Rattle.exact.specs.Samples.{sample, linear}
use Rattle.error.specs.Refusals.{Said, given, unless}
use Rattle.rows.specs.Rows.{septic, quintic}
use Rattle.asynchro_fast.specs.declared.PolynomialDegree.{PolynomialDegree}
use Rattle.asynchro_fast.specs.declared.PolynomialDegree.TheVariants.{Nearest, Linear, Cubic, Quintic, Septic}
use Rattle.asynchro_fast.specs.Degrees.{points_of}

-- the one sample
abbrev pub nearest_of : Float → List Float → Float
nearest_of x ys = sample ys 0

-- `interp_cubic` in src/asynchro_fast.rs, by Horner
abbrev pub cubic : Float → List Float → Float
cubic x ys =
    let y0 = sample ys 0 in
    let y1 = sample ys 1 in
    let y2 = sample ys 2 in
    let y3 = sample ys 3 in
    let a0 = y1 in
    let a1 = neg third *f y0 -f half_f *f y1 +f y2 -f sixth *f y3 in
    let a2 = half_f *f (y0 +f y2) -f y1 in
    let a3 = half_f *f (y1 -f y2) +f sixth *f (y3 -f y0) in
    a0 +f x *f (a1 +f x *f (a2 +f x *f a3))

-- the kernel of a degree
unfoldable pub interp_of : PolynomialDegree → Float → List Float → Float
interp_of Nearest x ys = nearest_of x ys
interp_of Linear x ys = linear x ys
interp_of Cubic x ys = cubic x ys
interp_of Quintic x ys = quintic x ys
interp_of Septic x ys = septic x ys

-- a kernel lent another number of samples than its L answers 11; every x is taken
abbrev pub kernel_said : PolynomialDegree → Float → List Float → Said Float
kernel_said d x ys = unless (eqb (length ys) (points_of d)) 11 [] (given (interp_of d x ys))
