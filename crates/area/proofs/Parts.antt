-- Areas of equal parts: what each part and the length of `each_part` are, and two such passes in one. Assumes nothing.
use mathlib.Core.Path.{◌≡◌, refl, sym, ap, ◌∙◌}
use mathlib.Core.List.{List, ◌++◌, append_assoc}
use mathlib.Core.Logic.{⊎_elim}
use Prim.Native.Nat.{ℕ, zero, suc, ◌+◌, ◌*◌, ◌≤◌, ◌<◌}
use native.Mathlib.Nat.{zero-mul, suc-mul, mul-le-mul_right, le_trans, not-suc-le-zero, eq-or-lt_of_le, le_of_suc-le-suc}
use native.Mathlib.Omega.{arith}
use lib.ListN.{length, take, drop, length-append, length-drop, take-append-drop}
use lib.Seq.{length-take-le, take_at, drop_at, take-add}
use Rattle.area.specs.Parts.{part_of, parts_to, each_part}

-- there is room for the part c
pub room : (c n share l : ℕ) → c < n → n * share ≤ l → c * share + share ≤ l
room c n share l h e = rw (← suc-mul) (le_trans (mul-le-mul_right share h) e)

pub part_long : {A : Type 0} (share n c : ℕ) (w : List A) → n * share ≤ length w → c < n → length (part_of share c w) ≡ share
part_long share n c w h l = length-take-le share (drop (c * share) w) (simp length-drop (omega (arith, room c n share (length w) l h)))

-- a part made anew is as long as before
abbrev pub Keeps : {A : Type 0} → (ℕ → List A → List A) → ℕ → ℕ → Type 0
Keeps {A} g share n = (c : ℕ) → c < n → (p : List A) → length p ≡ share → length (g c p) ≡ share

-- parts that are made alike
pub parts_same : {A : Type 0} (g h : ℕ → List A → List A) (share : ℕ) (w v : List A) (n : ℕ)
    → ((c : ℕ) → c < n → g c (part_of share c w) ≡ h c (part_of share c v)) → parts_to g share w n ≡ parts_to h share v n
unfolding parts_to
parts_same g h share w v zero e = refl
parts_same g h share w v (suc n) e =
    rw (parts_same g h share w v n (λ c l. e c (omega arith)), e n (omega arith))

pub each_alike : {A : Type 0} (g h : ℕ → List A → List A) (share n : ℕ) (w v : List A)
    → ((c : ℕ) → c < n → g c (part_of share c w) ≡ h c (part_of share c v)) → drop (n * share) w ≡ drop (n * share) v → each_part g share n w ≡ each_part h share n v
unfolding each_part
each_alike g h share n w v e d = rw (parts_same g h share w v n e, d)

pub each_same : {A : Type 0} (g h : ℕ → List A → List A) (share n : ℕ) (w : List A)
    → ((c : ℕ) → c < n → g c (part_of share c w) ≡ h c (part_of share c w)) → each_part g share n w ≡ each_part h share n w
each_same g h share n w e = each_alike g h share n w w e refl

-- parts that stay
pub parts_none : {A : Type 0} (g : ℕ → List A → List A) (share : ℕ) (w : List A) (n : ℕ)
    → ((c : ℕ) → c < n → g c (part_of share c w) ≡ part_of share c w) → parts_to g share w n ≡ take (n * share) w
unfolding parts_to
parts_none g share w zero e = rw zero-mul
parts_none g share w (suc n) e =
    rw (parts_none g share w n (λ c l. e c (omega arith)), e n (omega arith), suc-mul, take-add)

pub each_none : {A : Type 0} (g : ℕ → List A → List A) (share n : ℕ) (w : List A)
    → ((c : ℕ) → c < n → g c (part_of share c w) ≡ part_of share c w) → each_part g share n w ≡ w
unfolding each_part
each_none g share n w e = rw (parts_none g share w n e) (take-append-drop (n * share) w)

pub parts_long : {A : Type 0} (g : ℕ → List A → List A) (share n : ℕ) (w : List A)
    → Keeps g share n → n * share ≤ length w → length (parts_to g share w n) ≡ n * share
unfolding parts_to
parts_long g share zero w keeps h = sym (zero-mul share)
parts_long g share (suc n) w keeps h =
    let m : suc n * share ≡ n * share + share = suc-mul n share in
    let i = parts_long g share n w (λ c l. keeps c (omega arith)) (omega arith) in
    let j = keeps n (omega arith) (part_of share n w) (part_long share (suc n) n w h (omega arith)) in
    rw m (simp length-append (omega (arith, i, j)))

-- a part among those made anew is g of that part alone
parts_at : {A : Type 0} (g : ℕ → List A → List A) (share n : ℕ) (w : List A) → Keeps g share n → n * share ≤ length w → (rest : List A) (c : ℕ) → c < n
    → part_of share c (parts_to g share w n ++ rest) ≡ g c (part_of share c w)
unfolding parts_to
parts_at g share zero w keeps h rest c l = absurd (not-suc-le-zero l)
parts_at g share (suc n) w keeps h rest c l =
    let m : suc n * share ≡ n * share + share = suc-mul n share in
    let k : n * share ≤ length w = omega arith in
    let less : Keeps g share n = λ i q. keeps i (omega arith) in
    let j = keeps n (omega arith) (part_of share n w) (part_long share (suc n) n w h (omega arith)) in
    rw append_assoc (
    ⊎_elim
    (λ (e : c ≡ n). rw (e, drop_at (parts_to g share w n) (g n (part_of share n w) ++ rest) (n * share) (parts_long g share n w less k))
    (take_at (g n (part_of share n w)) rest share j))
    (λ (e : c < n). parts_at g share n w less k (g n (part_of share n w) ++ rest) c e)
    (eq-or-lt_of_le (le_of_suc-le-suc l)))

module _ {A : Type 0} (g : ℕ → List A → List A) (share n : ℕ) (w : List A) (keeps : Keeps g share n) (fits : n * share ≤ length w) where
  pub part_each : (c : ℕ) → c < n → part_of share c (each_part g share n w) ≡ g c (part_of share c w)
  unfolding each_part
  part_each c l = parts_at g share n w keeps fits (drop (n * share) w) c l

  -- what lies behind the parts stays
  pub rest_each : drop (n * share) (each_part g share n w) ≡ drop (n * share) w
  unfolding each_part
  rest_each = drop_at (parts_to g share w n) (drop (n * share) w) (n * share) (parts_long g share n w keeps fits)

  pub length_each : length (each_part g share n w) ≡ length w
  unfolding each_part
  length_each = simp (length-append, length-drop) (omega (arith, parts_long g share n w keeps fits))

  -- two passes are one
  pub each_each : (h : ℕ → List A → List A) → each_part h share n (each_part g share n w) ≡ each_part (λ c p. h c (g c p)) share n w
  each_each h = each_alike h (λ c p. h c (g c p)) share n (each_part g share n w) w (λ c l. ap (h c) (part_each c l)) rest_each
