-- Decimal digits: those that `io::decimal` answers are the text of a number. Assumes nothing.
use mathlib.Core.Bool.{Bool, true, false}
use mathlib.Core.List.{List, [], ◌∷◌, ◌++◌}
use mathlib.Core.Path.{◌≡◌, refl, sym, ap, ◌∙◌, subst}
use Prim.Native.Nat.{ℕ, zero, suc, ◌+◌, ◌-◌, ◌/◌, ◌%◌, ◌^◌, ◌<◌, ◌≤◌}
use native.Mathlib.Nat.{mod-lt, mod-eq_of_lt, pow-succ', one-le-pow, pow-le-pow_right}
use native.Mathlib.Omega.{arith}
use borrow.Author.Tests.{lt-ltb, le-ltb, leb-true, leb-false}
use lib.Dec.{leb, lit<}
use Rattle.io.specs.Digits.{hex_digit_ascii, last_digits, IsDigitCount}
use Rattle.printer.specs.Put.{decimal_from, decimal_text}

pub low_glyph : (d : ℕ) → d < 10 → hex_digit_ascii d ≡ 48 + d
low_glyph d h = rw (lt-ltb d 10 h)

last : (n : ℕ) → hex_digit_ascii (n % 10) ≡ 48 + n % 10
last n = low_glyph (n % 10) (mod-lt n (lit< tt))

less : (k : ℕ) → k ≡ suc k - 1
less k = omega arith

-- the fewest digits of a number are those of the text, which looks for no more than j + 1
fewest_is : (j k n : ℕ) → k ≤ suc j → IsDigitCount 10 1 n k → last_digits 10 k n ≡ decimal_from j n
unfolding decimal_from
fewest_is j zero n l f = absurd (omega (arith, f.0))
fewest_is zero (suc zero) n l f = ap (λ (d : ℕ). d ∷ []) (last n)
fewest_is zero (suc (suc k)) n l f = absurd (omega arith)
fewest_is (suc j) (suc zero) n l f =
    let small : n < 10 = f.1 in
    rw (lt-ltb n 10 small) (ap (λ (d : ℕ). d ∷ []) (last n ∙ ap (λ (d : ℕ). 48 + d) (mod-eq_of_lt {n = n} {m = 10} small)))
fewest_is (suc j) (suc (suc k)) n l f =
    let large : 10 ^ suc k ≤ n = subst (λ (i : ℕ). 10 ^ i ≤ n) (sym (less (suc k))) (f.2 (omega arith)) in
    let small : n < 10 ^ suc (suc k) = f.1 in
    let p = pow-succ' 10 k in
    let q = pow-succ' 10 (suc k) in
    let some = one-le-pow k 10 (lit< tt) in
    rw (le-ltb n 10 (omega arith))
    (ap (λ (w : List ℕ). w ++ (hex_digit_ascii (n % 10) ∷ [])) (fewest_is j (suc k) (n / 10) (omega arith) (omega arith, omega arith, λ h. subst (λ (i : ℕ). 10 ^ i ≤ n / 10) (less k) (omega arith)))
    ∙ ap (λ (d : ℕ). decimal_from j (n / 10) ++ (d ∷ [])) (last n))

-- a number below 2 ^ 64 has no more than 20
module _ (k n : ℕ) (h : n < 2 ^ 64) (f : IsDigitCount 10 1 n k) where
  pub few : k ≤ 20
  few = go (leb k 20) refl
    where
      go : (t : Bool) → leb k 20 ≡ t → k ≤ 20
      go true e = leb-true k 20 e
      go false e =
          let more = leb-false k 20 e in
          let large = f.2 (omega arith) in
          let most : 10 ^ 20 ≤ 10 ^ (k - 1) = pow-le-pow_right {n = 10} (lit< tt) {i = 20} {j = k - 1} (omega arith) in
          absurd (omega arith)

  pub decimal_is : (w : List ℕ) → w ≡ last_digits 10 k n → w ≡ decimal_text n
  decimal_is w e = e ∙ fewest_is 19 k n few f
