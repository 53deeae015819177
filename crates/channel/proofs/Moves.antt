-- Moving and reading in one channel: lengths, and what stands where after them. Assumes nothing.
use mathlib.Core.Path.{◌≡◌, ◌∙◌}
use mathlib.Core.List.{List, ◌++◌}
use Prim.Native.Nat.{ℕ, ◌+◌, ◌-◌, ◌≤◌, ◌<◌}
use native.Mathlib.Nat.{zero-add}
use native.Mathlib.Omega.{arith}
use lib.Ieee.{Float}
use lib.ListN.{length, get_or, take, drop, replicate, length-append, length-drop, length-replicate, get_or-append, get_or-replicate}
use lib.Seq.{paste, length_paste_head, take-paste, drop-paste, length-take-le, take_all, take_at, drop_at, drop-drop, get_or-take, get_or-drop, get_or-append-add}
use Rattle.exact.specs.Doubles.{zero_f}
use Rattle.channel.specs.Moves.{moved, loaded}

-- the two steps of the reading
pub loaded_is : (l2 : ℕ) (input : List Float) (read needed : ℕ) (w w₁ w₂ : List Float)
    → w₁ ≡ paste w l2 input read → w₂ ≡ paste w₁ (l2 + read) (replicate (needed - read) zero_f) (needed - read) → w₂ ≡ loaded l2 input read needed w
unfolding loaded
loaded_is l2 input read needed w w₁ w₂ a b = rw (b, a)

behind : {A : Type 0} (p q : List A) (n k : ℕ) (z : A) → length p ≡ n → get_or (p ++ q) (n + k) z ≡ get_or q k z
behind p q n k z e = rw (← e) (get_or-append-add p q k z)

-- the move: at the front what stood at fill, and the rest stays
module _ (fill l2 : ℕ) (w : List Float) where
  pub moved_parts : moved fill l2 w ≡ take l2 (drop fill w) ++ drop l2 w
  unfolding moved
  moved_parts = rw zero-add

  module _ (fits : fill + l2 ≤ length w) where
    front_long : length (take l2 (drop fill w)) ≡ l2
    front_long = length-take-le l2 (drop fill w) (simp length-drop (omega arith))

    pub moved_long : length (moved fill l2 w) ≡ length w
    moved_long = rw moved_parts (simp (length-append, length-drop) (omega (arith, front_long)))

    pub moved_front : take l2 (moved fill l2 w) ≡ take l2 (drop fill w)
    moved_front = rw moved_parts (take_at (take l2 (drop fill w)) (drop l2 w) l2 front_long)

    pub moved_rest : drop l2 (moved fill l2 w) ≡ drop l2 w
    moved_rest = rw moved_parts (drop_at (take l2 (drop fill w)) (drop l2 w) l2 front_long)

    pub moved_get : (k : ℕ) (z : Float) → k < l2 → get_or (moved fill l2 w) k z ≡ get_or w (fill + k) z
    moved_get k z l =
        rw moved_parts
        (get_or-append (take l2 (drop fill w)) (drop l2 w) z k (omega (arith, front_long)) ∙ get_or-take l2 (drop fill w) k z l ∙ get_or-drop fill w k z)

-- the reading: the front stays, then what was read, then zeros, and the rest stays
module _ (l2 : ℕ) (input : List Float) (read needed : ℕ) (w : List Float) (fits : l2 + needed ≤ length w) (short : read ≤ needed) (has : read ≤ length input) where
  pub loaded_parts : loaded l2 input read needed w ≡ take l2 w ++ take read input ++ replicate (needed - read) zero_f ++ drop (l2 + needed) w
  unfolding loaded
  loaded_parts =
      let k : l2 + read + (needed - read) ≡ l2 + needed = omega arith in
      let z : take (needed - read) (replicate (needed - read) zero_f) ≡ replicate (needed - read) zero_f =
      take_all (needed - read) (replicate (needed - read) zero_f) (rw length-replicate (omega arith)) in
      rw (take-paste w l2 input read (omega arith) has, z, ← drop-drop, drop-paste w l2 input read (omega arith) has, drop-drop, k)

  read_long : length (take l2 w ++ take read input) ≡ l2 + read
  read_long = length_paste_head w l2 input read (omega arith) has

  full_long : length (take l2 w ++ take read input ++ replicate (needed - read) zero_f) ≡ l2 + needed
  full_long = rw (length-append, length-replicate) (omega (arith, read_long))

  pub loaded_long : length (loaded l2 input read needed w) ≡ length w
  loaded_long = rw (loaded_parts, length-append, length-drop) (omega (arith, full_long))

  pub loaded_front : take (l2 + needed) (loaded l2 input read needed w) ≡ take l2 w ++ take read input ++ replicate (needed - read) zero_f
  loaded_front = rw loaded_parts (take_at (take l2 w ++ take read input ++ replicate (needed - read) zero_f) (drop (l2 + needed) w) (l2 + needed) full_long)

  pub loaded_rest : drop (l2 + needed) (loaded l2 input read needed w) ≡ drop (l2 + needed) w
  loaded_rest = rw loaded_parts (drop_at (take l2 w ++ take read input ++ replicate (needed - read) zero_f) (drop (l2 + needed) w) (l2 + needed) full_long)

  in-full : (k : ℕ) (z : Float) → k < l2 + needed → get_or (loaded l2 input read needed w) k z ≡ get_or (take l2 w ++ take read input ++ replicate (needed - read) zero_f) k z
  in-full k z l =
      rw loaded_parts (get_or-append (take l2 w ++ take read input ++ replicate (needed - read) zero_f) (drop (l2 + needed) w) z k (omega (arith, full_long)))

  in-read : (k : ℕ) (z : Float) → k < l2 + read → get_or (loaded l2 input read needed w) k z ≡ get_or (take l2 w ++ take read input) k z
  in-read k z l = in-full k z (omega arith) ∙ get_or-append (take l2 w ++ take read input) (replicate (needed - read) zero_f) z k (omega (arith, read_long))

  kept_long : length (take l2 w) ≡ l2
  kept_long = length-take-le l2 w (omega arith)

  pub loaded_get_kept : (k : ℕ) (z : Float) → k < l2 → get_or (loaded l2 input read needed w) k z ≡ get_or w k z
  loaded_get_kept k z l =
      in-read k z (omega arith) ∙ get_or-append (take l2 w) (take read input) z k (omega (arith, kept_long)) ∙ get_or-take l2 w k z l

  pub loaded_get_read : (k : ℕ) (z : Float) → k < read → get_or (loaded l2 input read needed w) (l2 + k) z ≡ get_or input k z
  loaded_get_read k z l = in-read (l2 + k) z (omega arith) ∙ behind (take l2 w) (take read input) l2 k z kept_long ∙ get_or-take read input k z l

  pub loaded_get_zero : (k : ℕ) (z : Float) → read + k < needed → get_or (loaded l2 input read needed w) (l2 + read + k) z ≡ zero_f
  loaded_get_zero k z l =
      in-full (l2 + read + k) z (omega arith) ∙ behind (take l2 w ++ take read input) (replicate (needed - read) zero_f) (l2 + read) k z read_long
      ∙ get_or-replicate (needed - read) k zero_f z (omega arith)
