-- Document 01, "Block run", and document 02, R-4, for the claims: where a frame's samples lie, in whole numbers, what its value is, and a channel's working area once it is moved, and once it is moved and read. Definitions only.
-- A pair (a, b) of natural numbers stands for a - b. A double's exact value is a whole number of 2 ^ -1074: 2 ^ 1074 of these make one.
use Rattle.std.specs.Prelude.{List, ◌++◌, ◌⊎◌, ◌≡◌, ℕ, suc, ◌+◌, ◌-◌, ◌*◌, ◌^◌, ◌≤◌, ◌<◌, Float, pos, length, get_or, take, drop, replicate}
use Rattle.std.specs.Float.{binary64}
use Rattle.std.specs.Float.Ieee.{low}
use Rattle.exact.specs.Doubles.{◌-f◌, ◌*f◌, count, zero_f}
use Rattle.exact.specs.Samples.{sample, linear}
use Rattle.exact.specs.Integers.{pair_of}
use Rattle.error.specs.Refusals.{given}
use Rattle.asynchro_sinc.specs.declared.SincInterpolationType.{SincInterpolationType}
use Rattle.asynchro_sinc.specs.declared.SincInterpolationType.TheVariants.{Nearest, Linear, Quadratic, Cubic}
use Rattle.asynchro_sinc.specs.Blends.{sinc_cubic, sinc_quad}
use Rattle.interpolation.specs.declared.Point.{Point}
use Rattle.kinds.specs.declared.Kind.{Kind}
use Rattle.kinds.specs.declared.Kind.TheVariants.{Polynomial, Sinc}
use Rattle.grid_places.specs.Spots.{grid_of}
use Rattle.sinc_value.specs.Values.{sum_to}
use Rattle.exact.specs.Whole.{Whole, ◌⊕◌, ◌⊖◌, ◌⊙◌, Same, Less, AtMost}
use Rattle.exact.specs.Exact.{exact, Number}
use Rattle.whole.specs.Rounded.{floor_of}
use Rattle.asynchro_fast.specs.declared.PolynomialDegree.{PolynomialDegree}
use Rattle.asynchro_fast.specs.Degrees.{points_of, before_of}
use Rattle.asynchro_fast.specs.Kernels.{interp_of}
use Rattle.state.specs.declared.State.{State}
use Rattle.state.specs.Record.{points_in, step_now_of}
use Rattle.path.specs.Path.{path_at}
use Rattle.shape.specs.Shape.{read_of}
use Rattle.plan.specs.Plan.{increment_of}

-- k is floor(x): k ≤ x < k + 1
pub record Floor (x : Float) (k : Whole) : Type 0 where
  pub number : Number binary64 x
  pub at_most : AtMost (2 ^ low binary64 ⊙ k) (exact binary64 x)
  pub below : Less (exact binary64 x) (2 ^ low binary64 ⊙ (k ⊕ (1, 0)))

-- "the kernel reads L neighbours from floor(index) - b + 2L": the first and the last of them, where k is floor(index)
abbrev pub first_from : PolynomialDegree → Whole → Whole
first_from degree k = k ⊖ (before_of degree, 0) ⊕ (2 * points_of degree, 0)

abbrev pub last_from : PolynomialDegree → Whole → Whole
last_from degree k = first_from degree k ⊕ (points_of degree, 0) ⊖ (1, 0)

-- the index of frame f, the first being frame 0
abbrev pub index_at : State → ℕ → Float
index_at s f = (path_at (step_now_of s) (increment_of s) s.index (suc f)).index

-- ---- Reach
-- a kernel's neighbours at the index x "lie below 0 or at or past 2L+needed input"
pub record KernelOutside (degree : PolynomialDegree) (needed : ℕ) (x : Float) : Type 0 where
  pub floor : Whole
  pub is : Floor x floor
  pub out : Less (first_from degree floor) (0, 0) ⊎ AtMost (2 * points_of degree + needed, 0) (last_from degree floor)

-- Document 02, R-4: "the L samples from its index + 2L": the first and the last sample of a grid point
abbrev pub first_of : ℕ → Point → Whole
first_of points p = pair_of p.index ⊕ (2 * points, 0)

abbrev pub final_of : ℕ → Point → Whole
final_of points p = first_of points p ⊕ (points, 0) ⊖ (1, 0)

-- the k-th of some grid points
abbrev pub point_at : List Point → ℕ → Point
point_at ps k = get_or ps k (record { index = pos 0; subindex = 0 })

-- "Reach covers every grid point's samples": the samples of one of them, the k-th, lie below 0 or at or past 2L+needed input
pub record GridOutside (points factor : ℕ) (blend : SincInterpolationType) (needed : ℕ) (x : Float) : Type 0 where
  pub grid : List Point
  pub are : grid_of blend x factor ≡ given grid
  pub k : ℕ
  pub among : k < length grid
  pub out : Less (first_of points (point_at grid k)) (0, 0) ⊎ AtMost (2 * points + needed, 0) (final_of points (point_at grid k))

abbrev pub OutsideAt : Kind → ℕ → Float → Type 0
OutsideAt (Polynomial degree) needed x = KernelOutside degree needed x
OutsideAt (Sinc points factor blend) needed x = GridOutside points factor blend needed x

-- frame f's samples lie below 0 or at or past 2L+needed input
abbrev pub Outside : State → ℕ → Type 0
Outside s f = OutsideAt s.kind s.input (index_at s f)

-- "some frame's neighbours, masks disregarded, lie below 0 or at or past 2L+needed input"
abbrev pub SomeOutside : State → Type 0
SomeOutside s = (f : ℕ) × (f < s.output) × Outside s f

-- ---- a frame's value
-- y is a kernel's value at the index x on the working area `work` of one channel: the kernel at frac = index - floor(index) on L neighbours, which begin at floor(index) - b + 2L and end below 2L + needed input
pub record KernelFrame (degree : PolynomialDegree) (needed : ℕ) (work : List Float) (x y : Float) : Type 0 where
  pub floor : Whole
  pub is : Floor x floor
  pub place : ℕ
  pub begins : Same (place, 0) (first_from degree floor)
  pub ends : place + points_of degree ≤ 2 * points_of degree + needed
  pub value : y ≡ interp_of degree (x -f floor_of x) (take (points_of degree) (drop place work))

-- a grid point's samples begin at index + 2L and end below 2L + needed input, and its row is one of the factor's
pub record PointInside (points factor needed : ℕ) (p : Point) (place : ℕ) : Type 0 where
  pub begins : Same (place, 0) (first_of points p)
  pub ends : place + points ≤ 2 * points + needed
  pub row : p.subindex < factor

-- the ported blends of src/asynchro_sinc.rs; Nearest has the one value
abbrev pub blend_of : SincInterpolationType → Float → List Float → Float
blend_of Nearest x ys = sample ys 0
blend_of Linear x ys = linear x ys
blend_of Quadratic x ys = sinc_quad x ys
blend_of Cubic x ys = sinc_cubic x ys

-- y is a sinc's value: of each grid point, whose samples begin at `places`, the sum of L samples times the table's row subindex; then the blend at index*factor minus its floor
pub record GridFrame (points factor : ℕ) (blend : SincInterpolationType) (needed : ℕ) (table work : List Float) (x y : Float) : Type 0 where
  pub grid : List Point
  pub are : grid_of blend x factor ≡ given grid
  pub places : ℕ → ℕ
  pub inside : (k : ℕ) → k < length grid → PointInside points factor needed (point_at grid k) (places k)
  pub values : List Float
  pub long : length values ≡ length grid
  pub each : (k : ℕ) → k < length grid → sample values k ≡ sum_to (take points (drop (places k) work)) (take points (drop ((point_at grid k).subindex * points) table)) (points - 1)
  pub value : y ≡ blend_of blend (x *f count factor -f floor_of (x *f count factor)) values

abbrev pub FrameAt : Kind → ℕ → List Float → List Float → Float → Float → Type 0
FrameAt (Polynomial degree) needed table work x y = KernelFrame degree needed work x y
FrameAt (Sinc points factor blend) needed table work x y = GridFrame points factor blend needed table work x y

-- y is frame f's value by the table on the working area `work` of one channel
abbrev pub Frame : State → List Float → List Float → ℕ → Float → Type 0
Frame s table work f y = FrameAt s.kind s.input table work (index_at s f) y

-- "samples fill..fill+2L move to the front": of one channel's working area; what lies beyond 2L stays
abbrev pub shifted : State → List Float → List Float
shifted s work = take (2 * points_in s) (drop s.fill work) ++ drop (2 * points_in s) work

-- "samples fill..fill+2L move to the front. Read frames follow, then zeros up to needed input": of one channel's input and working area; what lies beyond stays
abbrev pub refreshed : State → ℕ → List Float → List Float → List Float
refreshed s frames input work =
    take (2 * points_in s) (drop s.fill work) ++ take (read_of s frames) input ++ replicate (s.input - read_of s frames) zero_f ++ drop (2 * points_in s + s.input) work
