-- A pattern and its eight bytes: the loop that puts them, and the pattern read back. Assumes nothing.
use mathlib.Core.List.{List, [], ◌∷◌, ◌++◌}
use mathlib.Core.Path.{◌≡◌, refl, sym, ap, ◌∙◌}
use Prim.Native.Nat.{ℕ, zero, suc, ◌+◌, ◌*◌, ◌/◌, ◌%◌, ◌^◌, ◌<◌, ◌≤◌}
use native.Mathlib.Nat.{mod-one, mod-eq_of_lt, div-one}
use native.Mathlib.Numerals.{add-one}
use native.Mathlib.Omega.{arith}
use lib.Arith.{mod-mul}
use lib.Dec.{lit<}
use lib.Pow.{pow_pos, pow-add, shr-shr}
use lib.ListN.{length, get_or, set, take, drop, length-set, get_or-append}
use lib.Seq.{paste, paste-zero, paste-suc, length_paste_head, length-take-le, get_or-append-add, get_or-take}
use Rattle.std.specs.Int.{w64, from_le_bytes}
use Rattle.std.specs.List.{between}
use Rattle.std.proofs.lemmas.List.Edits.{get_or-between}
use Rattle.samples.specs.Samples.{little_from, little_at, bytes_from, eight_of}

pub length_bytes : (n j k : ℕ) → length (bytes_from n j k) ≡ k
unfolding bytes_from
length_bytes n j zero = refl
length_bytes n j (suc k) = ap suc (length_bytes n (j + 1) k)

pub byte_at : (n j k i : ℕ) → i < k → get_or (bytes_from n j k) i 0 ≡ n / 2 ^ (8 * (j + i)) % 256
unfolding bytes_from
byte_at n j zero i l = absurd (omega arith)
byte_at n j (suc k) zero l =
    let e : j ≡ j + 0 = omega arith in
    ap (λ (i : ℕ). n / 2 ^ (8 * i) % 256) e
byte_at n j (suc k) (suc i) l =
    let e : j + 1 + i ≡ j + suc i = omega arith in
    byte_at n (j + 1) k i (omega arith) ∙ ap (λ (i : ℕ). n / 2 ^ (8 * i) % 256) e

-- ---- the number of eight bytes that stand at a place, as the library puts it together
pub eight_join : (bs l : List ℕ) (at : ℕ) → l ≡ between at (at + 8) bs → from_le_bytes w64 l ≡ little_at bs at
unfolding little_from
eight_join bs l at e =
    let b : (k p : ℕ) → k < 8 → p ≡ at + k → get_or l k 0 ≡ get_or bs p 0 =
    λ k p h q. ap (λ (m : List ℕ). get_or m k 0) e ∙ get_or-between bs at (at + 8) k 0 (omega arith) ∙ ap (λ (i : ℕ). get_or bs i 0) (sym q) in
    let b₀ = b 0 at (lit< tt) (omega arith) in
    let b₁ = b 1 (at + 1) (lit< tt) (omega arith) in
    let b₂ = b 2 (at + 1 + 1) (lit< tt) (omega arith) in
    let b₃ = b 3 (at + 1 + 1 + 1) (lit< tt) (omega arith) in
    let b₄ = b 4 (at + 1 + 1 + 1 + 1) (lit< tt) (omega arith) in
    let b₅ = b 5 (at + 1 + 1 + 1 + 1 + 1) (lit< tt) (omega arith) in
    let b₆ = b 6 (at + 1 + 1 + 1 + 1 + 1 + 1) (lit< tt) (omega arith) in
    let b₇ = b 7 (at + 1 + 1 + 1 + 1 + 1 + 1 + 1) (lit< tt) (omega arith) in
    omega arith

-- ---- x is d with the first k of the w bytes of n from the place at on
pub record Put (d : List ℕ) (at n w : ℕ) (x : List ℕ) (k : ℕ) : Type 0 where
  pub long : length x ≡ length d
  pub is : x ≡ paste d at (bytes_from n 0 w) k

pub put_none : (d : List ℕ) (at n w : ℕ) → Put d at n w d 0
put_none d at n w = record { long = refl; is = paste-zero d at (bytes_from n 0 w) }

pub put_next : (d : List ℕ) (at n w : ℕ) (x : List ℕ) (k v : ℕ) → Put d at n w x k → at + w ≤ length d → k < w
    → v ≡ n / 2 ^ (8 * k) % 256 → Put d at n w (set x (at + k) v) (k + 1)
put_next d at n w x k v p h l e =
    let b : n / 2 ^ (8 * k) % 256 ≡ get_or (bytes_from n 0 w) k 0 = sym (byte_at n 0 w k l ∙ ap (λ (i : ℕ). n / 2 ^ (8 * i) % 256) (omega arith)) in
    record {
      long = simp length-set p.long;
      is = rw (p.is, e, b, add-one) (paste-suc d at (bytes_from n 0 w) k 0 (omega arith) (omega (arith, length_bytes n 0 w)));
    }

pub put_done : (d : List ℕ) (at n w : ℕ) (x : List ℕ) (k : ℕ) → Put d at n w x k → k ≡ w → x ≡ paste d at (bytes_from n 0 w) w
put_done d at n w x k p e = p.is ∙ ap (λ (j : ℕ). paste d at (bytes_from n 0 w) j) e

-- ---- what a reader may ask: a pattern that was put is read back
unfoldable joined : List ℕ → ℕ
joined [] = 0
joined (b ∷ bs) = b + 256 * joined bs

joined_is : (n j k : ℕ) → joined (bytes_from n j k) ≡ n / 2 ^ (8 * j) % 2 ^ (8 * k)
unfolding joined bytes_from
joined_is n j zero = sym (mod-one (n / 2 ^ (8 * j)))
joined_is n j (suc k) =
    let m = n / 2 ^ (8 * j) in
    let e : 8 * j + 8 ≡ 8 * (j + 1) = omega arith in
    let up : n / 2 ^ (8 * (j + 1)) ≡ m / 256 = sym (shr-shr n (8 * j) 8 ∙ ap (λ (i : ℕ). n / 2 ^ i) e) in
    let wide : 2 ^ (8 * k) * 256 ≡ 2 ^ (8 * suc k) = sym (pow-add 2 (8 * k) 8) ∙ ap (λ (i : ℕ). 2 ^ i) (omega arith) in
    let rest : joined (bytes_from n (j + 1) k) ≡ m / 256 % 2 ^ (8 * k) = joined_is n (j + 1) k ∙ ap (λ (i : ℕ). i % 2 ^ (8 * k)) up in
    let whole : m % (2 ^ (8 * k) * 256) ≡ (m / 256 % 2 ^ (8 * k)) * 256 + m % 256 = mod-mul m (pow_pos (8 * k)) (lit< tt) in
    let sum : m % 256 + 256 * joined (bytes_from n (j + 1) k) ≡ m % (2 ^ (8 * k) * 256) = omega (arith, rest, whole) in
    sum ∙ ap (λ (i : ℕ). m % i) wide

pasted_get : (b : List ℕ) (at : ℕ) (s : List ℕ) (n k : ℕ) → at + n ≤ length b → n ≤ length s → k < n → get_or (paste b at s n) (at + k) 0 ≡ get_or s k 0
pasted_get b at s n k room has l =
    let long : length (take at b) ≡ at = length-take-le at b (omega arith) in
    get_or-append (take at b ++ take n s) (drop (at + n) b) 0 (at + k) (omega (arith, length_paste_head b at s n (omega arith) has))
    ∙ sym (ap (λ (i : ℕ). get_or (take at b ++ take n s) (i + k) 0) long)
    ∙ get_or-append-add (take at b) (take n s) k 0 ∙ get_or-take n s k 0 l

-- k bytes at a place are the number of a text that stands there
little_joined : (x : List ℕ) (at : ℕ) (s : List ℕ) → ((k : ℕ) → k < length s → get_or x (at + k) 0 ≡ get_or s k 0) → little_from x at (length s) ≡ joined s
unfolding little_from joined
little_joined x at [] f = refl
little_joined x at (b ∷ s) f =
    let first : get_or x at 0 ≡ b = ap (λ (i : ℕ). get_or x i 0) (omega arith) ∙ f 0 (omega arith) in
    let rest = little_joined x (at + 1) s (λ k l. ap (λ (i : ℕ). get_or x i 0) (omega arith) ∙ f (suc k) (omega arith)) in
    omega arith

pub little_back : (b : List ℕ) (at n : ℕ) → at + 8 ≤ length b → n < 2 ^ 64 → little_at (paste b at (eight_of n) 8) at ≡ n
little_back b at n room small =
    let long = length_bytes n 0 8 in
    let whole : n / 2 ^ 0 % 2 ^ 64 ≡ n = rw (div-one n) (mod-eq_of_lt small) in
    ap (λ (k : ℕ). little_from (paste b at (eight_of n) 8) at k) (sym long)
    ∙ little_joined (paste b at (eight_of n) 8) at (eight_of n) (λ k l. pasted_get b at (eight_of n) 8 k room (omega arith) (omega arith))
    ∙ joined_is n 0 8 ∙ whole
