-- What is known of a size: it is at most 65,536 frames, and what reading it tells. Assumes nothing.
use Rattle.std.proofs.Common.{◌≡◌, ℕ, ◌*◌, ◌/◌, ◌≤◌, Bool, true, false, refl, ap, zero-le, lit≤, eq-eqb, eqb-true, le-leb, leb-true}
use mathlib.Core.Bool.{false≢true}
use lib.Ieee.{Float, nan, inf, fin, up, down}
use Rattle.exact.specs.Doubles.{◌+f◌, ◌*f◌, ◌/f◌, count, two_f}
use Rattle.whole.specs.Rounded.{ceil_of}
use Rattle.sizes.specs.declared.FixedAsync.{FixedAsync}
use Rattle.sizes.specs.declared.FixedAsync.TheVariants.{Input, Output}
use Rattle.std.specs.Prelude.{Option, Some, None, is_some}
use Rattle.sizes.specs.Bounds.{is_size}
use Rattle.sizes.specs.Sizes.{sized, size_of, size_of_count, input_float, output_float, needed_input, needed_output, max_input, frames_of, size_equals, size_at_least}

-- ---- a size is at most 65,536
counted_small : (b : Bool) (n : ℕ) → is_size n ≡ b → frames_of (sized b n) ≤ 65536
counted_small true n h = leb-true n 65536 h
counted_small false n h = lit≤ tt

count_small : (n : ℕ) → frames_of (size_of_count n) ≤ 65536
count_small n = counted_small (is_size n) n refl

size_small : (x : Float) → frames_of (size_of x) ≤ 65536
unfolding size_of
size_small nan = lit≤ tt
size_small (inf true) = lit≤ tt
size_small (inf false) = lit≤ tt
size_small (fin true m e) = lit≤ tt
size_small (fin false m e) = count_small (m * up e / down e)

pub input_small : (f : FixedAsync) (l c : ℕ) (i t1 t2 : Float) → frames_of (needed_input f l c i t1 t2) ≤ 65536
unfolding needed_input
input_small Input l c i t1 t2 = count_small c
input_small Output l c i t1 t2 = size_small (input_float l c i t1 t2)

pub output_small : (f : FixedAsync) (l c : ℕ) (i t1 t2 : Float) → frames_of (needed_output f l c i t1 t2) ≤ 65536
unfolding needed_output
output_small Input l c i t1 t2 = size_small (output_float l c i t1 t2)
output_small Output l c i t1 t2 = count_small c

pub max_small : (f : FixedAsync) (l c0 : ℕ) (r0 m : Float) → frames_of (max_input f l c0 r0 m) ≤ 65536
unfolding max_input
max_small Input l c0 r0 m = count_small c0
max_small Output l c0 r0 m = size_small (ceil_of (count c0 /f r0 *f m) +f two_f +f count (l / 2))

-- ---- reading a size
pub size_is : (z : Option ℕ) (n : ℕ) → size_equals z n ≡ true → z ≡ Some n
size_is (Some k) n h = ap Some (eqb-true k n h)
size_is None n h = absurd (false≢true h)

pub size_holds : (z : Option ℕ) (n : ℕ) → size_at_least z n ≡ true → n ≤ frames_of z
size_holds (Some k) n h = leb-true n k h
size_holds None n h = absurd (false≢true h)

pub is_some_lem : (z : Option ℕ) → is_some z ≡ true → z ≡ Some (frames_of z)
is_some_lem (Some k) h = refl
is_some_lem None h = absurd (false≢true h)

-- a size that was worked out is the number that is written down
pub own_size : (z : Option ℕ) → is_some z ≡ true → size_equals z (frames_of z) ≡ true
own_size (Some n) h = eq-eqb n n refl
own_size None h = h

-- and it holds 0 frames
pub none_held : (z : Option ℕ) → is_some z ≡ true → size_at_least z 0 ≡ true
none_held (Some n) h = le-leb 0 n zero-le
none_held None h = h

-- a count that is a size
pub counted : (b : Bool) (n : ℕ) → is_size n ≡ b → is_some (sized b n) ≡ true → n ≤ 65536
counted true n h k = leb-true n 65536 h
counted false n h k = absurd (false≢true k)
