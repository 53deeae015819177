-- Loops over the parts of an area, each part lent and given back. Assumes nothing.
use mathlib.Core.Path.{◌≡◌, refl, sym, ap, ◌∙◌}
use mathlib.Core.List.{List, ◌++◌, append_assoc}
use Prim.Native.Nat.{ℕ, suc, ◌+◌, ◌-◌, ◌*◌, ◌≤◌}
use native.Mathlib.Nat.{zero-mul, suc-mul}
use native.Mathlib.Numerals.{add-one}
use native.Mathlib.Omega.{arith}
use lib.ListN.{length, take, drop, length-append, length-drop}
use lib.Seq.{length-take-le, take_at, drop_at, drop-drop, take-add}
use Rattle.area.specs.Parts.{part_of, parts_to, each_part}
use Rattle.area.specs.Turns.{one_part}

-- w is w₀ with its first c parts made anew
pub record Parted {A : Type 0} (g : ℕ → List A → List A) (share : ℕ) (w₀ w : List A) (c : ℕ) : Type 0 where
  pub long : length w ≡ length w₀
  pub done : length (parts_to g share w₀ c) ≡ c * share
  pub is : w ≡ parts_to g share w₀ c ++ drop (c * share) w₀

pub parted_none : {A : Type 0} (g : ℕ → List A → List A) (share : ℕ) (w₀ : List A) → Parted g share w₀ w₀ 0
unfolding parts_to
parted_none g share w₀ = record { long = refl; done = sym (zero-mul share); is = rw zero-mul }

-- what is not made anew yet is as it was
pub parted_rest : {A : Type 0} (g : ℕ → List A → List A) (share : ℕ) (w₀ w : List A) (c : ℕ)
    → Parted g share w₀ w c → drop (c * share) w ≡ drop (c * share) w₀
parted_rest g share w₀ w c p = rw p.is (drop_at (parts_to g share w₀ c) (drop (c * share) w₀) (c * share) p.done)

pub parted_next : {A : Type 0} (g : ℕ → List A → List A) (share : ℕ) (w₀ w w' : List A) (c : ℕ)
    → Parted g share w₀ w c → c * share + share ≤ length w₀ → length w' ≡ length w → w' ≡ one_part g share c w → Parted g share w₀ w' (c + 1)
unfolding parts_to
parted_next g share w₀ w w' c p h k e =
    let t : take (c * share) w ≡ parts_to g share w₀ c = rw p.is (take_at (parts_to g share w₀ c) (drop (c * share) w₀) (c * share) p.done) in
    let d = parted_rest g share w₀ w c p in
    let b : drop (c * share + share) w ≡ drop (c * share + share) w₀ = rw (← drop-drop, d, drop-drop) in
    let m : suc c * share ≡ c * share + share = suc-mul c share in
    let o : w' ≡ parts_to g share w₀ c ++ g c (part_of share c w₀) ++ drop (c * share + share) w₀ = rw (e, t, d, b) in
    let q = simp (length-append, length-drop) at (ap length o) in
    record {
      long = k ∙ p.long;
      done = rw (add-one, m) (simp length-append (omega (arith, q, k, p.long, p.done)));
      is = rw (add-one, m) o;
    }

pub parted_done : {A : Type 0} (g : ℕ → List A → List A) (share : ℕ) (w₀ w : List A) (c n : ℕ) → Parted g share w₀ w c → c ≡ n → w ≡ each_part g share n w₀
unfolding each_part
parted_done g share w₀ w c n p e = rw (← e) p.is

-- a part that is lent as `w[a..a + share]`, and one of it from the place `at` on, `w[a + at..a + share]`
pub lent_is : {A : Type 0} (a share : ℕ) (w : List A) → take (a + share - a) (drop a w) ≡ take share (drop a w)
lent_is a share w = let k : a + share - a ≡ share = omega arith in rw k

pub lent_long : {A : Type 0} (a share : ℕ) (w : List A) → a + share ≤ length w → length (take (a + share - a) (drop a w)) ≡ share
lent_long a share w h = rw lent_is (length-take-le share (drop a w) (simp length-drop (omega arith)))

pub lent_from : {A : Type 0} (a share at : ℕ) (w : List A) → a + share ≤ length w → at ≤ share
    → take (a + share - (a + at)) (drop (a + at) w) ≡ drop at (take share (drop a w))
lent_from a share at w h l =
    let k : a + share - (a + at) ≡ share - at = omega arith in
    let m : share ≡ at + (share - at) = omega arith in
    let f : length (take at (drop a w)) ≡ at = length-take-le at (drop a w) (simp length-drop (omega arith)) in
    rw (k, ← drop-drop) (sym (ap (λ (n : ℕ). drop at (take n (drop a w))) m ∙ ap (drop at) (take-add at (share - at) (drop a w))
    ∙ drop_at (take at (drop a w)) (take (share - at) (drop at (drop a w))) at f))

-- the area once the part is given back
pub given_back : {A : Type 0} (g : ℕ → List A → List A) (share c : ℕ) (w ys : List A) → ys ≡ g c (take (c * share + share - c * share) (drop (c * share) w))
    → take (c * share) w ++ (ys ++ drop (c * share + share - c * share) (drop (c * share) w)) ≡ one_part g share c w
given_back g share c w ys e =
    let k : c * share + share - c * share ≡ share = omega arith in
    rw (e, k, drop-drop, append_assoc)
