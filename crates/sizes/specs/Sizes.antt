-- Document 01, "The ratio state": the sizes, in the source's operation order, over any number of points l. Definitions only.
-- t1 and t2 are the steps 1/r1 and 1/r2 of the current and the target ratio, i is the index, c the chunk; c0, r0 and m are the construction's.
use Rattle.std.specs.Prelude.{ℕ, ◌+◌, ◌*◌, ◌/◌, Bool, true, false, ◌==◌, Option, Some, None, unwrap_or, from_bits, nat_le, Float}
use Rattle.std.specs.Float.{nan, inf, fin, binary64}
use Rattle.std.specs.Float.Ieee.{up, down, neg, to_unsigned}
use Rattle.exact.specs.Doubles.{◌+f◌, ◌-f◌, ◌*f◌, ◌/f◌, count, half_f, two_f}
use Rattle.whole.specs.Rounded.{floor_of, ceil_of, trunc_of}
use Rattle.sizes.specs.declared.FixedAsync.{FixedAsync}
use Rattle.sizes.specs.declared.FixedAsync.TheVariants.{Input, Output}
use Rattle.sizes.specs.Bounds.{is_size}

abbrev pub ten_f : Float
ten_f = from_bits binary64 0x4024_0000_0000_0000

-- a number of frames, or too many
abbrev pub sized : Bool → ℕ → Option ℕ
sized true n = Some n
sized false n = None

abbrev pub size_of_count : ℕ → Option ℕ
size_of_count n = sized (is_size n) n

-- "A size is truncated to a whole number and a negative one becomes 0." A NaN and what is beyond 65,536 after truncation is too large
unfoldable pub size_of : Float → Option ℕ
size_of nan = None
size_of (inf true) = Some 0
size_of (inf false) = None
size_of (fin true m e) = Some 0
size_of (fin false m e) = size_of_count (m * up e / down e)

-- "The index starts at -(L/2), so -0.5 for Nearest."
abbrev pub start_of : ℕ → Float
start_of l = neg (count l /f two_f)

-- "avg = 0.5*(1/r1 + 1/r2), over = 0.5*(1/r2 - 1/r1)"
abbrev pub avg_of : Float → Float → Float
avg_of t1 t2 = half_f *f (t1 +f t2)

abbrev pub over_of : Float → Float → Float
over_of t1 t2 = half_f *f (t2 -f t1)

-- "in = ceil(i + c*avg + over + L)"
abbrev pub input_float : ℕ → ℕ → Float → Float → Float → Float
input_float l c i t1 t2 = ceil_of (i +f count c *f avg_of t1 t2 +f over_of t1 t2 +f count l)

-- "out = floor(((c - (L+1) - i) - over)/avg)"
abbrev pub output_float : ℕ → ℕ → Float → Float → Float → Float
output_float l c i t1 t2 = floor_of ((count c -f count (l + 1) -f i -f over_of t1 t2) /f avg_of t1 t2)

-- the needed sizes: the fixed side is the chunk
unfoldable pub needed_input : FixedAsync → ℕ → ℕ → Float → Float → Float → Option ℕ
unfolding size_of
needed_input Input l c i t1 t2 = size_of_count c
needed_input Output l c i t1 t2 = size_of (input_float l c i t1 t2)

unfoldable pub needed_output : FixedAsync → ℕ → ℕ → Float → Float → Float → Option ℕ
unfolding size_of
needed_output Input l c i t1 t2 = size_of (output_float l c i t1 t2)
needed_output Output l c i t1 t2 = size_of_count c

-- "Maximum input, fixed output: ceil(c0/r0*m) + 2 + floor(L/2). Maximum output, fixed input: c0*r0*m + 10. Otherwise both maxima are c0."
unfoldable pub max_input : FixedAsync → ℕ → ℕ → Float → Float → Option ℕ
unfolding size_of
max_input Input l c0 r0 m = size_of_count c0
max_input Output l c0 r0 m = size_of (ceil_of (count c0 /f r0 *f m) +f two_f +f count (l / 2))

unfoldable pub max_output : FixedAsync → ℕ → Float → Float → Option ℕ
unfolding size_of
max_output Input c0 r0 m = size_of (count c0 *f r0 *f m +f ten_f)
max_output Output c0 r0 m = size_of_count c0

-- "Output delay is L*r1/2, truncated.": the whole number that the truncation is
unfoldable pub delay_of : ℕ → Float → ℕ
delay_of l r1 = to_unsigned 64 (trunc_of (count l *f r1 /f two_f))

-- ---- reading a size
-- the number of frames, 0 where there are too many
abbrev pub frames_of : Option ℕ → ℕ
frames_of z = unwrap_or z 0

-- the size is n; it is n or more
abbrev pub size_equals : Option ℕ → ℕ → Bool
size_equals (Some k) n = k == n
size_equals None n = false

abbrev pub size_at_least : Option ℕ → ℕ → Bool
size_at_least (Some k) n = nat_le n k
size_at_least None n = false
