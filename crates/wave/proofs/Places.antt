-- The place of a whole number of steps in its turn, and what the machine makes of that number. Assumes nothing.
use Rattle.std.proofs.Common.{◌≡◌, ℕ, zero, suc, ◌+◌, ◌-◌, ◌%◌, ◌<◌, ◌≤◌, T, ℤ, pos, negsuc, ◌+ℤ◌, ◌-ℤ◌, neg_ℤ, nat_abs, refl, ap, ◌∙◌, subst, arith, w64, Fits, SFits, to_z, of_z, le-ltb}
use mir.ValLaws.{to_z-of_z}
use lib.Signed.{non_neg}
use lib.IntN.{+ℤ_idl}
use Rattle.exact.specs.Integers.{pair_of, Is}
use Rattle.exact.specs.Whole.{Whole, ◌⊕◌}
use Rattle.exact.proofs.Integers.{pair_is, neg_is, plus_is}
use Rattle.whole.proofs.Casts.{abs_fits}
use Rattle.wave.specs.Carried.{place_of}

pub place_inside : (z : ℤ) → place_of z < 4096
place_inside (pos n) = omega arith
place_inside (negsuc n) = omega arith

-- the place p of a - b is what a and b say
place_is : (z : ℤ) (v : Whole) → Is z v → (place_of z + v.1) % 4096 ≡ v.0 % 4096
place_is (pos n) v h = omega arith
place_is (negsuc n) v h = omega arith

one_place : (p q a b : ℕ) → p < 4096 → q < 4096 → (p + b) % 4096 ≡ a % 4096 → (q + b) % 4096 ≡ a % 4096 → p ≡ q
one_place p q a b h k e f = omega arith

-- the place q of z + y, where y is c - d: what z says, c more and d less
module _ (z y : ℤ) (c d q : ℕ) (y-is : Is y (c, d)) (inside : q < 4096) where
  place_sum : ((p : ℕ) (a b : ℕ) → p < 4096 → (p + b) % 4096 ≡ a % 4096 → p ≡ place_of z → (q + (b + d)) % 4096 ≡ (a + c) % 4096) → place_of (z +ℤ y) ≡ q
  place_sum law =
      let v = pair_of z in
      one_place (place_of (z +ℤ y)) q (v.0 + c) (v.1 + d) (place_inside (z +ℤ y)) inside
      (place_is (z +ℤ y) (v ⊕ (c, d)) (plus_is z y v (c, d) (pair_is z) y-is))
      (law (place_of z) v.0 v.1 (place_inside z) (place_is z v (pair_is z)) refl)

within : (n : ℕ) → n % 4096 < 4096
within n = omega arith

-- o steps on
pub place_plus : (z : ℤ) (o : ℕ) → place_of (z +ℤ pos o) ≡ (place_of z + o) % 4096
place_plus z o = place_sum z (pos o) o 0 ((place_of z + o) % 4096) (omega arith) (within (place_of z + o)) (λ p a b h e f. subst (λ (x : ℕ). ((x + o) % 4096 + (b + 0)) % 4096 ≡ (a + o) % 4096) f (on p a b o e))
  where
    on : (p a b o : ℕ) → (p + b) % 4096 ≡ a % 4096 → ((p + o) % 4096 + (b + 0)) % 4096 ≡ (a + o) % 4096
    on p a b o e = omega arith

-- a quarter of a turn back is three quarters on
pub place_back : (z : ℤ) → place_of (z -ℤ pos 1024) ≡ (place_of z + 3072) % 4096
place_back z = place_sum z (negsuc 1023) 0 1024 ((place_of z + 3072) % 4096) (omega arith) (within (place_of z + 3072)) (λ p a b h e f. subst (λ (x : ℕ). ((x + 3072) % 4096 + (b + 1024)) % 4096 ≡ (a + 0) % 4096) f (back p a b e))
  where
    back : (p a b : ℕ) → (p + b) % 4096 ≡ a % 4096 → ((p + 3072) % 4096 + (b + 1024)) % 4096 ≡ (a + 0) % 4096
    back p a b e = omega arith

-- the other way round the turn
pub place_neg : (z : ℤ) → place_of (neg_ℤ z) ≡ (4096 - place_of z) % 4096
place_neg z =
    let v = pair_of z in
    one_place (place_of (neg_ℤ z)) ((4096 - place_of z) % 4096) v.1 v.0 (place_inside (neg_ℤ z)) (within (4096 - place_of z))
    (place_is (neg_ℤ z) (v.1, v.0) (neg_is z v (pair_is z)))
    (round (place_of z) v.0 v.1 (place_inside z) (place_is z v (pair_is z)))
  where
    less : (p : ℕ) → suc p < 4096 → (4096 - suc p) % 4096 ≡ 4096 - suc p
    less p h = omega arith

    rest : (p a b : ℕ) → suc p < 4096 → (suc p + b) % 4096 ≡ a % 4096 → (4096 - suc p + a) % 4096 ≡ b % 4096
    rest p a b h e = omega arith

    round : (p a b : ℕ) → p < 4096 → (p + b) % 4096 ≡ a % 4096 → ((4096 - p) % 4096 + a) % 4096 ≡ b % 4096
    round zero a b h e = omega arith
    round (suc p) a b h e =
        let q : (4096 - suc p) % 4096 ≡ 4096 - suc p = less p h in
        rw q (rest p a b h e)

-- ---- what the machine makes of it: z and 2 ^ 52, a number of whole turns, is no number below 0
turns : (z : ℤ) → nat_abs z ≤ 4503599627370496 → (m : ℕ) × (z +ℤ pos 4503599627370496 ≡ pos m) × (m ≤ 9007199254740992) × (m % 4096 ≡ place_of z)
turns (pos n) h = (n + 4503599627370496, refl, omega arith, omega arith)
turns (negsuc n) h = (4503599627370496 - suc n, rw (le-ltb 4503599627370496 (suc n) h) refl, omega arith, omega arith)

abbrev back : ℤ → ℤ
back z = to_z w64 (of_z w64 z)

module _ (z : ℤ) (h : nat_abs z ≤ 4503599627370496) where
  same : back z ≡ z
  same = to_z-of_z w64 z (abs_fits z (omega arith))

  fitting : (m : ℕ) → m ≤ 9007199254740992 → SFits w64 (pos m)
  fitting m l = record { sfits = omega arith }

  pub turn_fits : SFits w64 (back z +ℤ pos 4503599627370496)
  turn_fits = let t = turns z h in rw (same, t.1) (fitting t.0 t.2)

  landed : (t : (m : ℕ) × (z +ℤ pos 4503599627370496 ≡ pos m) × (m ≤ 9007199254740992) × (m % 4096 ≡ place_of z)) → back (back z +ℤ pos 4503599627370496) ≡ pos t.0
  landed t = ap (λ (y : ℤ). back (y +ℤ pos 4503599627370496)) same ∙ ap back t.1 ∙ to_z-of_z w64 (pos t.0) (fitting t.0 t.2)

  pub turn_cast : T (non_neg (back (back z +ℤ pos 4503599627370496))) × Fits w64 (nat_abs (back (back z +ℤ pos 4503599627370496)))
  turn_cast = let t = turns z h in rw (landed t) (tt, record { fits = omega arith })

  pub turn_place : nat_abs (back (back z +ℤ pos 4503599627370496)) % 4096 ≡ place_of z
  turn_place = let t = turns z h in rw (landed t) t.3

-- ---- an entry with the other sign, in the machine
module _ (w : ℕ) (h : w < 4294967296) where
  plain : to_z w64 w ≡ pos w
  plain = to_z-of_z w64 (pos w) (record { sfits = omega arith })

  minus_fits : SFits w64 (neg_ℤ (pos w))
  minus_fits = go w h
    where
      go : (w : ℕ) → w < 4294967296 → SFits w64 (neg_ℤ (pos w))
      go zero h = record { sfits = omega arith }
      go (suc w) h = record { sfits = omega arith }

  from_zero : pos 0 -ℤ to_z w64 w ≡ neg_ℤ (pos w)
  from_zero = ap (λ (z : ℤ). pos 0 -ℤ z) plain ∙ +ℤ_idl (neg_ℤ (pos w))

  pub minus_asks : SFits w64 (pos 0 -ℤ to_z w64 w)
  minus_asks = rw from_zero minus_fits

  pub minus_is : back (pos 0 -ℤ to_z w64 w) ≡ neg_ℤ (pos w)
  minus_is = ap back from_zero ∙ to_z-of_z w64 (neg_ℤ (pos w)) minus_fits
