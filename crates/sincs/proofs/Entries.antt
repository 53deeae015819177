-- The sinc's two cases, a value put together, and the running sum. Assumes nothing.
use Rattle.std.proofs.Common.{◌≡◌, ℕ, ◌+◌, ◌*◌, true, false, refl, add-one}
use lib.Ieee.{Float}
use Rattle.exact.specs.Doubles.{◌+f◌, ◌*f◌, ◌/f◌, zero_f, one_f}
use Rattle.windows.specs.declared.WindowFunction.{WindowFunction}
use Rattle.wave.specs.Cosine.{sine_at}
use Rattle.window_points.specs.Points.{point_at}
use Rattle.sincs.specs.Sinc.{pi_f, steps_of, tiny, sinc_of, place_of, value_at}
use Rattle.sincs.specs.Table.{sum_to, sum_of, value_no, entry_at}

pub sinc_near : (v : Float) → tiny v ≡ true → one_f ≡ sinc_of v
unfolding sinc_of
sinc_near v h = rw h

pub sinc_far : (v y : Float) → tiny v ≡ false → y ≡ sine_at (steps_of v) → y /f (v *f pi_f) ≡ sinc_of v
unfolding sinc_of
sinc_far v y h e = rw (h, e)

pub value_is : (points factor x : ℕ) (c : Float) (w : WindowFunction) (v p s : Float) → v ≡ place_of (points * factor) factor c x → p ≡ point_at w x (points * factor) → s ≡ sinc_of v → p *f s ≡ value_at points factor c w x
unfolding value_at
value_is points factor x c w v p s e f g = rw (f, g, e)

pub sum_none : (f : ℕ → Float) → zero_f ≡ sum_to f 0
unfolding sum_to
sum_none f = refl

pub sum_next : (f : ℕ → Float) (x : ℕ) (s v : Float) → s ≡ sum_to f x → v ≡ f x → s +f v ≡ sum_to f (x + 1)
unfolding sum_to
sum_next f x s v e h = rw (add-one, e, h)

pub entry_is : (points factor j : ℕ) (c : Float) (w : WindowFunction) (x : ℕ) (v s : Float) → x ≡ value_no points factor j → v ≡ value_at points factor c w x → s ≡ sum_of points factor c w → v /f s ≡ entry_at points factor c w j
entry_is points factor j c w x v s e f g = rw (f, g, e)
