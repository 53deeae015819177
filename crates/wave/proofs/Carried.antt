-- The wave carried on to every whole number of steps: its period, its mirror, its half turn, its sign and its size, from the table's rules. Assumes nothing.
use Rattle.std.proofs.Common.{◌≡◌, ℕ, zero, suc, ◌+◌, ◌-◌, ◌*◌, ◌/◌, ◌%◌, ◌^◌, ◌<◌, ◌≤◌, Bool, true, false, not, T, ltb, ◌⊎◌, ℤ, pos, negsuc, ◌+ℤ◌, ◌-ℤ◌, neg_ℤ, nat_abs, sym, refl, ap, ◌∙◌, subst, inl, inr, add_comm, arith, ltb→lt, nltb→le}
use lib.IntN.{neg_ℤ-neg_ℤ}
use Rattle.quarter.specs.Rules.{entry, Near}
use Rattle.quarter.proofs.Rules.{rules}
use Rattle.wave.specs.Carried.{place_of, in_quarter, turned, carried}
use Rattle.wave.proofs.Places.{place_inside, place_plus, place_back, place_neg}

-- ---- place by place: a place p of a turn is r steps after the start of quarter q
record Parted (p : ℕ) : Type 0 where
  q : ℕ
  r : ℕ
  quarter : p / 1024 ≡ q
  rest : p % 1024 ≡ r
  four : q < 4
  inside : r < 1024
  is : p ≡ q * 1024 + r

parted : (p : ℕ) → p < 4096 → Parted p
parted p h = record { q = p / 1024; r = p % 1024; quarter = refl; rest = refl; four = omega arith; inside = omega arith; is = omega arith }

-- the value at q quarters and r steps
at_parts : (p q r : ℕ) → p ≡ q * 1024 + r → r < 1024 → turned p ≡ in_quarter q r
at_parts p q r e h =
    let a : p / 1024 ≡ q = omega arith in
    let b : p % 1024 ≡ r = omega arith in
    rw (a, b)

-- what holds of each quarter and each step in it holds at every place
by_quarters : (P : ℕ → Type 0) → ((q r : ℕ) → q < 4 → r < 1024 → P (q * 1024 + r)) → (p : ℕ) → p < 4096 → P p
by_quarters P law p h = let w = parted p h in subst P (sym w.is) (law w.q w.r w.four w.inside)

no_negative_zero : (n : ℕ) → n ≡ 0 → neg_ℤ (pos n) ≡ pos n
no_negative_zero zero e = refl
no_negative_zero (suc n) e = absurd (omega arith)

-- ---- half a turn on: the other sign
half_turned : (p : ℕ) → p < 4096 → turned ((p + 2048) % 4096) ≡ neg_ℤ (turned p)
unfolding in_quarter
half_turned = by_quarters (λ p. turned ((p + 2048) % 4096) ≡ neg_ℤ (turned p)) law
  where
    law : (q r : ℕ) → q < 4 → r < 1024 → turned ((q * 1024 + r + 2048) % 4096) ≡ neg_ℤ (turned (q * 1024 + r))
    law zero r f h = at_parts ((0 * 1024 + r + 2048) % 4096) 2 r (omega arith) h ∙ ap neg_ℤ (sym (at_parts (0 * 1024 + r) 0 r refl h))
    law (suc zero) r f h = at_parts ((1 * 1024 + r + 2048) % 4096) 3 r (omega arith) h ∙ sym (neg_ℤ-neg_ℤ (pos (entry (1024 - r)))) ∙ ap neg_ℤ (sym (at_parts (1 * 1024 + r) 1 r refl h))
    law (suc (suc zero)) r f h = at_parts ((2 * 1024 + r + 2048) % 4096) 0 r (omega arith) h ∙ sym (neg_ℤ-neg_ℤ (pos (entry r))) ∙ ap neg_ℤ (sym (at_parts (2 * 1024 + r) 2 r refl h))
    law (suc (suc (suc zero))) r f h = at_parts ((3 * 1024 + r + 2048) % 4096) 1 r (omega arith) h ∙ ap neg_ℤ (sym (at_parts (3 * 1024 + r) 3 r refl h))
    law (suc (suc (suc (suc q)))) r f h = absurd (omega arith)

-- ---- the other way round: the same
-- at the end of a quarter the entry is 0, and 0 has no other sign
ends_same : (r : ℕ) → r ≡ 1024 → pos (entry r) ≡ neg_ℤ (pos (entry r))
ends_same r e = sym (no_negative_zero (entry r) (ap entry e ∙ rules.ends))

mirrored : (p : ℕ) → p < 4096 → turned ((4096 - p) % 4096) ≡ turned p
unfolding in_quarter
mirrored = by_quarters (λ p. turned ((4096 - p) % 4096) ≡ turned p) law
  where
    twice : (r : ℕ) → suc r < 1024 → 1024 - (1024 - suc r) ≡ suc r
    twice r h = omega arith

    less : (r : ℕ) → 1024 - suc r < 1024
    less r = omega arith

    law : (q r : ℕ) → q < 4 → r < 1024 → turned ((4096 - (q * 1024 + r)) % 4096) ≡ turned (q * 1024 + r)
    law zero zero f h = at_parts ((4096 - (0 * 1024 + 0)) % 4096) 0 0 (omega arith) h ∙ sym (at_parts (0 * 1024 + 0) 0 0 refl h)
    law (suc zero) zero f h = at_parts ((4096 - (1 * 1024 + 0)) % 4096) 3 0 (omega arith) h ∙ ends_same (1024 - 0) (omega arith) ∙ sym (at_parts (1 * 1024 + 0) 1 0 refl h)
    law (suc (suc zero)) zero f h = at_parts ((4096 - (2 * 1024 + 0)) % 4096) 2 0 (omega arith) h ∙ sym (at_parts (2 * 1024 + 0) 2 0 refl h)
    law (suc (suc (suc zero))) zero f h = at_parts ((4096 - (3 * 1024 + 0)) % 4096) 1 0 (omega arith) h ∙ sym (ends_same (1024 - 0) (omega arith)) ∙ sym (at_parts (3 * 1024 + 0) 3 0 refl h)
    law zero (suc r) f h = at_parts ((4096 - (0 * 1024 + suc r)) % 4096) 3 (1024 - suc r) (omega arith) (less r) ∙ ap (λ (n : ℕ). pos (entry n)) (twice r h) ∙ sym (at_parts (0 * 1024 + suc r) 0 (suc r) refl h)
    law (suc zero) (suc r) f h = at_parts ((4096 - (1 * 1024 + suc r)) % 4096) 2 (1024 - suc r) (omega arith) (less r) ∙ sym (at_parts (1 * 1024 + suc r) 1 (suc r) refl h)
    law (suc (suc zero)) (suc r) f h = at_parts ((4096 - (2 * 1024 + suc r)) % 4096) 1 (1024 - suc r) (omega arith) (less r) ∙ ap (λ (n : ℕ). neg_ℤ (pos (entry n))) (twice r h) ∙ sym (at_parts (2 * 1024 + suc r) 2 (suc r) refl h)
    law (suc (suc (suc zero))) (suc r) f h = at_parts ((4096 - (3 * 1024 + suc r)) % 4096) 0 (1024 - suc r) (omega arith) (less r) ∙ sym (at_parts (3 * 1024 + suc r) 3 (suc r) refl h)
    law (suc (suc (suc (suc q)))) r f h = absurd (omega arith)

-- ---- the claims, for every whole number n
-- c(n + 4096) = c(n)
pub period : (n : ℤ) → carried (n +ℤ pos 4096) ≡ carried n
period n = ap turned (place_plus n 4096 ∙ round (place_of n) (place_inside n))
  where
    round : (p : ℕ) → p < 4096 → (p + 4096) % 4096 ≡ p
    round p h = omega arith

-- c(-n) = c(n)
pub even : (n : ℤ) → carried (neg_ℤ n) ≡ carried n
even n = ap turned (place_neg n) ∙ mirrored (place_of n) (place_inside n)

-- c(n + 2048) = -c(n)
pub half_turn : (n : ℤ) → carried (n +ℤ pos 2048) ≡ neg_ℤ (carried n)
half_turn n = ap turned (place_plus n 2048) ∙ half_turned (place_of n) (place_inside n)

-- ---- signs and sizes
entry_some : (r : ℕ) → r < 1024 → 0 < entry r
entry_some r h = omega (arith, rules.falls r h)

entry_most : (r : ℕ) → r ≤ 1024 → entry r ≤ 1073741824
entry_most zero h = rw rules.starts (omega arith)
entry_most (suc r) h = omega (arith, rules.falls r h, entry_most r (omega arith))

neg_abs : (n : ℕ) → nat_abs (neg_ℤ (pos n)) ≡ n
neg_abs zero = refl
neg_abs (suc n) = refl

-- the size in each quarter
size_in : (q r : ℕ) → r < 1024 → nat_abs (in_quarter q r) ≤ 1073741824
unfolding in_quarter
size_in zero r h = entry_most r (omega arith)
size_in (suc zero) r h = rw (neg_abs (entry (1024 - r))) (entry_most (1024 - r) (omega arith))
size_in (suc (suc zero)) r h = rw (neg_abs (entry r)) (entry_most r (omega arith))
size_in (suc (suc (suc q))) r h = entry_most (1024 - r) (omega arith)

-- |c(n)| ≤ 2^30
pub size_most : (n : ℤ) → nat_abs (carried n) ≤ 1073741824
size_most n = size_in (place_of n / 1024) (place_of n % 1024) (omega arith)

-- c(n) is above 0 less than a quarter of a turn from 0
abbrev pub Positive : ℤ → Type 0
Positive (pos n) = 0 < n
Positive (negsuc n) = ⊥

pub positive_after : (n : ℤ) → place_of n < 1024 → Positive (carried n)
unfolding in_quarter
positive_after n h = subst Positive (sym (at_parts (place_of n) 0 (place_of n) (omega arith) h)) (entry_some (place_of n) h)

pub positive_before : (n : ℤ) → 3072 < place_of n → Positive (carried n)
unfolding in_quarter
positive_before n h =
    let r = place_of n - 3072 in
    let i = place_inside n in
    subst Positive (sym (at_parts (place_of n) 3 r (omega arith) (omega arith))) (entry_some (1024 - r) (omega arith))

-- a quarter of a turn from 0 it is 0
pub zero_at : (n : ℤ) → (place_of n ≡ 1024) ⊎ (place_of n ≡ 3072) → carried n ≡ pos 0
unfolding in_quarter
zero_at n (inl e) = ap turned e ∙ sym (ends_same 1024 refl) ∙ ap pos rules.ends
zero_at n (inr e) = ap turned e ∙ ap pos rules.ends

-- and further off below 0: the half turn of what is above
pub negative_between : (n : ℤ) → 1024 < place_of n → place_of n < 3072 → Positive (neg_ℤ (carried n))
negative_between n h k = subst Positive (half_turn n) (go (ltb (place_of n) 2048) (ltb→lt (place_of n) 2048) (nltb→le (place_of n) 2048))
  where
    on : (p : ℕ) → p < 2048 → 1024 < p → 3072 < (p + 2048) % 4096
    on p l h = omega arith

    over : (p : ℕ) → 2048 ≤ p → p < 3072 → (p + 2048) % 4096 < 1024
    over p l k = omega arith

    go : (b : Bool) → (T b → place_of n < 2048) → (T (not b) → 2048 ≤ place_of n) → Positive (carried (n +ℤ pos 2048))
    go true u v = positive_before (n +ℤ pos 2048) (rw (place_plus n 2048) (on (place_of n) (u tt) h))
    go false u v = positive_after (n +ℤ pos 2048) (rw (place_plus n 2048) (over (place_of n) (v tt) k))

-- ---- the mirror rule of the table, at every step: the squares of c(n) and c(n - 1024) make 2^60 within 2^31
square : ℤ → ℕ
square z = nat_abs z * nat_abs z

-- two places, as far into their quarters
squares : (p p' q q' r x y : ℕ) → r < 1024 → p ≡ q * 1024 + r → p' ≡ q' * 1024 + r → nat_abs (in_quarter q r) ≡ x → nat_abs (in_quarter q' r) ≡ y → Near (2 ^ 31) (x * x + y * y) (2 ^ 60)
    → Near (2 ^ 31) (square (turned p) + square (turned p')) (2 ^ 60)
unfolding square
squares p p' q q' r x y h e e' f f' n = rw (at_parts p q r e h, at_parts p' q' r e' h, f, f') n

unit_turned : (p : ℕ) → p < 4096 → Near (2 ^ 31) (square (turned p) + square (turned ((p + 3072) % 4096))) (2 ^ 60)
unfolding in_quarter
unit_turned = by_quarters (λ p. Near (2 ^ 31) (square (turned p) + square (turned ((p + 3072) % 4096))) (2 ^ 60)) law
  where
    swapped : (x y : ℕ) → Near (2 ^ 31) (x * x + y * y) (2 ^ 60) → Near (2 ^ 31) (y * y + x * x) (2 ^ 60)
    swapped x y h = rw (add_comm (y * y) (x * x)) h

    law : (q r : ℕ) → q < 4 → r < 1024 → Near (2 ^ 31) (square (turned (q * 1024 + r)) + square (turned ((q * 1024 + r + 3072) % 4096))) (2 ^ 60)
    law zero r f h = squares (0 * 1024 + r) ((0 * 1024 + r + 3072) % 4096) 0 3 r (entry r) (entry (1024 - r)) h refl (omega arith) refl refl (rules.mirrors r (omega arith))
    law (suc zero) r f h =
        squares (1 * 1024 + r) ((1 * 1024 + r + 3072) % 4096) 1 0 r (entry (1024 - r)) (entry r) h refl (omega arith) (neg_abs (entry (1024 - r))) refl (swapped (entry r) (entry (1024 - r)) (rules.mirrors r (omega arith)))
    law (suc (suc zero)) r f h =
        squares (2 * 1024 + r) ((2 * 1024 + r + 3072) % 4096) 2 1 r (entry r) (entry (1024 - r)) h refl (omega arith) (neg_abs (entry r)) (neg_abs (entry (1024 - r))) (rules.mirrors r (omega arith))
    law (suc (suc (suc zero))) r f h =
        squares (3 * 1024 + r) ((3 * 1024 + r + 3072) % 4096) 3 2 r (entry (1024 - r)) (entry r) h refl (omega arith) refl (neg_abs (entry r)) (swapped (entry r) (entry (1024 - r)) (rules.mirrors r (omega arith)))
    law (suc (suc (suc (suc q)))) r f h = absurd (omega arith)

pub unit : (n : ℤ) → Near (2 ^ 31) (nat_abs (carried n) * nat_abs (carried n) + nat_abs (carried (n -ℤ pos 1024)) * nat_abs (carried (n -ℤ pos 1024))) (2 ^ 60)
unfolding square
unit n = rw (place_back n) (unit_turned (place_of n) (place_inside n))
