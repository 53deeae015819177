-- Document 01, "What is ported": the `interp_` functions of src/asynchro_sinc.rs, in the source's operation order. Definitions only.
-- "Kernels": this cubic uses powers, and has other bits than the one by Horner in src/asynchro_fast.rs. On two samples both sides have
-- the one line of exact/specs/Samples.antt.
use Rattle.std.specs.Prelude.{List, [], ◌∷◌, ℕ, eqb, Float, length}
use Rattle.std.specs.Float.Ieee.{neg}
use Rattle.exact.specs.Doubles.{◌+f◌, ◌-f◌, ◌*f◌, one_f, half_f, two_f, three_f, four_f, third, sixth}
use Rattle.exact.specs.Samples.{sample}
use Rattle.error.specs.Refusals.{Said, given, unless}

-- samples at -1, 0, 1, 2
abbrev pub cubic_on : Float → Float → Float → Float → Float → Float
cubic_on x y0 y1 y2 y3 =
    let a0 = y1 in
    let a1 = neg third *f y0 -f half_f *f y1 +f y2 -f sixth *f y3 in
    let a2 = half_f *f (y0 +f y2) -f y1 in
    let a3 = half_f *f (y1 -f y2) +f sixth *f (y3 -f y0) in
    let x2 = x *f x in
    let x3 = x2 *f x in
    a0 +f a1 *f x +f a2 *f x2 +f a3 *f x3

-- samples at 0, 1, 2
abbrev pub quad_on : Float → Float → Float → Float → Float
quad_on x y0 y1 y2 =
    let a2 = y0 -f two_f *f y1 +f y2 in
    let a1 = neg three_f *f y0 +f four_f *f y1 -f y2 in
    let a0 = two_f *f y0 in
    let x2 = x *f x in
    half_f *f (a0 +f a1 *f x +f a2 *f x2)

abbrev pub sinc_cubic : Float → List Float → Float
sinc_cubic x ys = cubic_on x (sample ys 0) (sample ys 1) (sample ys 2) (sample ys 3)

abbrev pub sinc_quad : Float → List Float → Float
sinc_quad x ys = quad_on x (sample ys 0) (sample ys 1) (sample ys 2)

-- "lent another number of samples than its L answers 11; every x is taken, NaN too"
abbrev pub blend_said : ℕ → (Float → List Float → Float) → Float → List Float → Said Float
blend_said l blend x ys = unless (eqb (length ys) l) 11 [] (given (blend x ys))

-- the factor of each sample
abbrev pub cubic_weights : Float → List Float
cubic_weights x =
    let x2 = x *f x in
    let x3 = x2 *f x in
    (neg third *f x +f half_f *f x2 -f sixth *f x3)
    ∷ (one_f -f half_f *f x -f x2 +f half_f *f x3)
    ∷ (x +f half_f *f x2 -f half_f *f x3)
    ∷ (neg sixth *f x +f sixth *f x3)
    ∷ []

abbrev pub quad_weights : Float → List Float
quad_weights x =
    let x2 = x *f x in
    (half_f *f (two_f -f three_f *f x +f x2)) ∷ (half_f *f (four_f *f x -f two_f *f x2)) ∷ (half_f *f (x2 -f x)) ∷ []

abbrev pub lin_weights : Float → List Float
lin_weights x = (one_f -f x) ∷ x ∷ []
