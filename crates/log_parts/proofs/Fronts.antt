-- Bytes that are moved to the front of a buffer. Assumes nothing.
use mathlib.Core.List.{List}
use mathlib.Core.Path.{◌≡◌, sym, ap, ◌∙◌}
use Prim.Native.Nat.{ℕ, ◌+◌, ◌-◌, ◌≤◌}
use native.Mathlib.Omega.{arith}
use lib.ListN.{length, take, drop, length-drop}
use lib.Seq.{take-add, take_at, drop_at, length-take-le}
use Rattle.std.specs.List.{copy_within}

-- a part of the bytes, cut in either order
pub middle : (l : List ℕ) (at end : ℕ) → at ≤ end → end ≤ length l → take (end - at) (drop at l) ≡ drop at (take end l)
middle l at end h k =
    let e : at + (end - at) ≡ end = omega arith in
    sym (drop_at (take at l) (take (end - at) (drop at l)) at (length-take-le at l (omega arith)))
    ∙ ap (drop at) (sym (take-add at (end - at) l) ∙ ap (λ (n : ℕ). take n l) e)

-- the bytes from `at` to `end`, moved there within the buffer
pub moved : (buf : List ℕ) (at end : ℕ) → at ≤ end → end ≤ length buf → take (end - at) (copy_within buf at end 0) ≡ drop at (take end buf)
moved buf at end h k =
    let n = end - at in
    let w = take n (drop at buf) in
    let l : length w ≡ n = length-take-le n (drop at buf) (omega (arith, length-drop at buf)) in
    take_at w (drop (0 + n) buf) n l ∙ middle buf at end h k
