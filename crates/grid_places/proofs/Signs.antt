-- The place of a grid point, by the tests that the code makes of the signed index. Assumes nothing.
use Rattle.std.proofs.Common.{Option, None, ◌≡◌, ℕ, suc, ◌+◌, ◌-◌, ◌^◌, ◌<◌, ◌≤◌, true, false, T, leb, ℤ, pos, negsuc, ◌-ℤ◌, nat_abs, sym, refl, ap, ◌∙◌, subst, true≢false, zero-add, arith, w64, Fits, SFits, to_z, of_z, le-leb, leb-false, leb-true}
use mathlib.Core.Bool.{false≢true}
use borrow.Author.Tests.{lt-leb}
use mir.ValLaws.{to_z-of_z}
use lib.Dec.{leb-zero}
use lib.Signed.{le_z, non_neg, mag}
use Rattle.whole.proofs.Casts.{abs_fits}
use Rattle.grid_places.specs.declared.Spot.{Spot}
use Rattle.grid_places.specs.Spots.{within, spot_from}

-- the spot at start
abbrev spot_at : ℕ → ℕ → ℕ → Option Spot
spot_at last row start = within (leb start last) start row

-- ---- of an index y, by its sign
plain_kept : (y : ℤ) → mag y < 2 ^ 63 → le_z (pos 0) y ≡ true → T (non_neg y) × Fits w64 (nat_abs y)
plain_kept (pos n) f e = (tt, record { fits = omega arith })
plain_kept (negsuc n) f e = absurd (false≢true e)

-- a negative index from -131072 on, turned
minus_size : (y : ℤ) → le_z (pos 0) y ≡ false → le_z (negsuc 131071) y ≡ true → (pos 0 -ℤ y ≡ pos (nat_abs y)) × (nat_abs y ≤ 131072)
minus_size (pos n) e t = absurd (true≢false (sym (leb-zero n) ∙ e))
minus_size (negsuc n) e t =
    let l = leb-true n 131071 t in
    (ap pos (zero-add (suc n)), omega arith)

module _ (shift last row : ℕ) where
  plain_is : (y : ℤ) → le_z (pos 0) y ≡ true → spot_at last row (nat_abs y + shift) ≡ spot_from shift last y row
  unfolding spot_from
  plain_is (pos n) e = refl
  plain_is (negsuc n) e = absurd (false≢true e)

  plain_lost : (y : ℤ) → le_z (pos 0) y ≡ true → last < nat_abs y → None ≡ spot_from shift last y row
  unfolding spot_from
  plain_lost (pos n) e h = rw (lt-leb (n + shift) last (omega arith)) refl
  plain_lost (negsuc n) e h = absurd (false≢true e)

  minus_is : (y : ℤ) → le_z (pos 0) y ≡ false → nat_abs y ≤ shift → spot_at last row (shift - nat_abs y) ≡ spot_from shift last y row
  unfolding spot_from
  minus_is (pos n) e h = absurd (true≢false (sym (leb-zero n) ∙ e))
  minus_is (negsuc n) e h = rw (le-leb (suc n) shift h) refl

  minus_lost : (y : ℤ) → le_z (pos 0) y ≡ false → shift < nat_abs y → None ≡ spot_from shift last y row
  unfolding spot_from
  minus_lost (pos n) e h = absurd (true≢false (sym (leb-zero n) ∙ e))
  minus_lost (negsuc n) e h = rw (lt-leb (suc n) shift h) refl

far_size : (y : ℤ) → le_z (pos 0) y ≡ false → le_z (negsuc 131071) y ≡ false → 131072 < nat_abs y
far_size (pos n) e t = absurd (true≢false (sym (leb-zero n) ∙ e))
far_size (negsuc n) e t = omega (arith, leb-false n 131071 t)

-- ---- the index as the machine reads it back from its bits, which give it
abbrev back : ℤ → ℤ
back z = to_z w64 (of_z w64 z)

module _ (z : ℤ) (f : mag z < 2 ^ 63) where
  same : back z ≡ z
  same = to_z-of_z w64 z (record { sfits = f })

  -- what holds of z holds of what is read back
  module _ (P : ℤ → Type 0) where
    read : P z → P (back z)
    read = subst P (sym same)

  pub index_kept : le_z (pos 0) (back z) ≡ true → T (non_neg (back z)) × Fits w64 (nat_abs (back z))
  index_kept = read (λ y. le_z (pos 0) y ≡ true → T (non_neg y) × Fits w64 (nat_abs y)) (plain_kept z f)

  module _ (shift last row : ℕ) where
    pub spot_plain : le_z (pos 0) (back z) ≡ true → spot_at last row (nat_abs (back z) + shift) ≡ spot_from shift last z row
    spot_plain = read (λ y. le_z (pos 0) y ≡ true → spot_at last row (nat_abs y + shift) ≡ spot_from shift last z row) (plain_is shift last row z)

    pub spot_high : le_z (pos 0) (back z) ≡ true → last < nat_abs (back z) → None ≡ spot_from shift last z row
    spot_high = read (λ y. le_z (pos 0) y ≡ true → last < nat_abs y → None ≡ spot_from shift last z row) (plain_lost shift last row z)

    pub spot_low : le_z (pos 0) (back z) ≡ false → le_z (negsuc 131071) (back z) ≡ false → shift < 131072 → None ≡ spot_from shift last z row
    spot_low =
        read (λ y. le_z (pos 0) y ≡ false → le_z (negsuc 131071) y ≡ false → shift < 131072 → None ≡ spot_from shift last z row)
        (λ e t h. minus_lost shift last row z e (omega (arith, far_size z e t)))

  -- a negative index, turned
  module _ (e : le_z (pos 0) (back z) ≡ false) (t : le_z (negsuc 131071) (back z) ≡ true) where
    turned : (pos 0 -ℤ back z ≡ pos (nat_abs z)) × (nat_abs z ≤ 131072)
    turned =
        read (λ y. le_z (pos 0) y ≡ false → le_z (negsuc 131071) y ≡ true → (pos 0 -ℤ y ≡ pos (nat_abs z)) × (nat_abs z ≤ 131072)) (minus_size z) e t

    pub turned_fits : SFits w64 (pos 0 -ℤ back z)
    turned_fits = subst (SFits w64) (sym turned.0) (abs_fits (pos (nat_abs z)) (omega (arith, turned.1)))

    turned_is : back (pos 0 -ℤ back z) ≡ pos (nat_abs z)
    turned_is = to_z-of_z w64 (pos 0 -ℤ back z) turned_fits ∙ turned.0

    pub turned_kept : T (non_neg (back (pos 0 -ℤ back z))) × Fits w64 (nat_abs (back (pos 0 -ℤ back z)))
    turned_kept =
        let l = turned.1 in
        subst (λ (y : ℤ). T (non_neg y) × Fits w64 (nat_abs y)) (sym turned_is) (tt, record { fits = omega arith })

    -- what holds of its size holds of what the code has
    module _ (P : ℕ → Type 0) where
      sized : P (nat_abs z) → P (nat_abs (back (pos 0 -ℤ back z)))
      sized = subst (λ (y : ℤ). P (nat_abs y)) (sym turned_is)

    negative : le_z (pos 0) z ≡ false
    negative = subst (λ (y : ℤ). le_z (pos 0) y ≡ false) same e

    module _ (shift last row : ℕ) where
      pub spot_minus : nat_abs (back (pos 0 -ℤ back z)) ≤ shift → spot_at last row (shift - nat_abs (back (pos 0 -ℤ back z))) ≡ spot_from shift last z row
      spot_minus = sized (λ n. n ≤ shift → spot_at last row (shift - n) ≡ spot_from shift last z row) (minus_is shift last row z negative)

      pub spot_far : shift < nat_abs (back (pos 0 -ℤ back z)) → None ≡ spot_from shift last z row
      spot_far = sized (λ n. shift < n → None ≡ spot_from shift last z row) (minus_lost shift last row z negative)
