-- A payload's numbers and doubles are read back from its bytes, a record's kind and payload from its own, and a log's records from the log. Assumes nothing.
use mathlib.Core.Bool.{true}
use mathlib.Core.List.{List, [], ◌∷◌, ◌++◌, append-nil, append_assoc}
use mathlib.Core.Path.{◌≡◌, refl, sym, ap, ◌∙◌}
use Prim.Native.Nat.{ℕ, zero, suc, ◌+◌, ◌*◌, ◌/◌, ◌%◌, ◌^◌, ◌≤◌, ◌<◌}
use native.Mathlib.Nat.{mod-one, mod-eq_of_lt, div-one}
use native.Mathlib.Omega.{arith}
use lib.Arith.{mod-mul}
use lib.Dec.{lit<}
use lib.Pow.{pow_pos, pow-add, shr-shr}
use lib.Ieee.{Float, binary64, to_bits, of_bits}
use lib.Ieee.Bits.{of_bits-to_bits, to_bits-lt}
use lib.ListN.{length, get_or, take, drop}
use lib.Seq.{take-append_seam}
use Rattle.samples.specs.Samples.{little_from, sample_at, bytes_from, eight_of}
use Rattle.samples.proofs.Bytes.{length_bytes, byte_at}
use Rattle.log_records.specs.Records.{two_of, is_kind, body_of, sum_of, record_of}
use Rattle.log_calls.specs.Payloads.{start_payload, increment, block_payload, setting_payload}
use Rattle.log_claims.specs.Listing.{listing}
use Rattle.log_claims.specs.Claims.{AllGood, joined, kept_all, kept_parts}
use Rattle.log_claims.proofs.ReadBack.{length_back}
use Rattle.log_claims.proofs.Choice.{past_part}
use Rattle.log_claims.proofs.Copies.{alone_kept}
use Rattle.position.proofs.Tests.{Double}
use Rattle.sheets.specs.Sheet.{Page, judge}
use Rattle.sheet_claims.specs.Logs.{judged_record}

-- ---- the number of k bytes, by its bytes
little_is : (x : List ℕ) (at n j k : ℕ) → ((i : ℕ) → i < k → get_or x (at + i) 0 ≡ n / 2 ^ (8 * (j + i)) % 256) → little_from x at k ≡ n / 2 ^ (8 * j) % 2 ^ (8 * k)
unfolding little_from
little_is x at n j zero f = sym (mod-one (n / 2 ^ (8 * j)))
little_is x at n j (suc k) f =
    let m = n / 2 ^ (8 * j) in
    let e : 8 * j + 8 ≡ 8 * (j + 1) = omega arith in
    let up : n / 2 ^ (8 * (j + 1)) ≡ m / 256 = sym (shr-shr n (8 * j) 8 ∙ ap (λ (i : ℕ). n / 2 ^ i) e) in
    let wide : 2 ^ (8 * k) * 256 ≡ 2 ^ (8 * suc k) = sym (pow-add 2 (8 * k) 8) ∙ ap (λ (i : ℕ). 2 ^ i) (omega arith) in
    let first : get_or x at 0 ≡ m % 256 = ap (λ (i : ℕ). get_or x i 0) (omega arith) ∙ f 0 (omega arith) ∙ ap (λ (i : ℕ). n / 2 ^ (8 * i) % 256) (omega arith) in
    let rest : little_from x (at + 1) k ≡ m / 256 % 2 ^ (8 * k) =
    little_is x (at + 1) n (j + 1) k (λ i l. ap (λ (q : ℕ). get_or x q 0) (omega arith) ∙ f (suc i) (omega arith) ∙ ap (λ (q : ℕ). n / 2 ^ (8 * q) % 256) (omega arith))
    ∙ ap (λ (i : ℕ). i % 2 ^ (8 * k)) up in
    let whole : m % (2 ^ (8 * k) * 256) ≡ (m / 256 % 2 ^ (8 * k)) * 256 + m % 256 = mod-mul m (pow_pos (8 * k)) (lit< tt) in
    let sum : get_or x at 0 + 256 * little_from x (at + 1) k ≡ m % (2 ^ (8 * k) * 256) = omega (arith, first, rest, whole) in
    sum ∙ ap (λ (i : ℕ). m % i) wide

-- of a number's own bytes it is that number
own_back : (n k : ℕ) → n < 2 ^ (8 * k) → little_from (bytes_from n 0 k) 0 k ≡ n
own_back n k h =
    let whole : n / 2 ^ (8 * 0) % 2 ^ (8 * k) ≡ n = rw (div-one n) (mod-eq_of_lt h) in
    little_is (bytes_from n 0 k) 0 n 0 k (λ i l. ap (λ (q : ℕ). get_or (bytes_from n 0 k) q 0) (omega arith) ∙ byte_at n 0 k i l) ∙ whole

double_back : (x : Float) → Double x → sample_at (eight_of (to_bits binary64 x)) 0 ≡ x
double_back x d = ap (of_bits binary64) (own_back (to_bits binary64 x) 8 (to_bits-lt binary64 x d)) ∙ of_bits-to_bits binary64 x d

-- ---- a start's payload, and a setting's
pub start_length : (x : Float) → length (start_payload x) ≡ 8
start_length x = length_bytes (to_bits binary64 x) 0 8

pub start_back : (x : Float) → Double x → sample_at (start_payload x) 0 ≡ x
start_back x d = double_back x d

pub setting_length : (what value : ℕ) → length (setting_payload what value) ≡ 9
unfolding bytes_from
setting_length what value = refl

-- ---- a block's payload
module _ (n c : ℕ) (t d i : Float) where
  abbrev b : List ℕ
  b = block_payload n c t d i

  pub block_length : length b ≡ 32
  unfolding bytes_from
  block_length = refl

  pub output_back : n < 2 ^ 32 → little_from b 0 4 ≡ n
  unfolding bytes_from little_from
  output_back h = own_back n 4 h

  pub input_back : c < 2 ^ 32 → little_from b 4 4 ≡ c
  unfolding bytes_from little_from
  input_back h = own_back c 4 h

  pub step_back : Double t → sample_at b 8 ≡ t
  unfolding bytes_from little_from
  step_back h = double_back t h

  pub increment_back : Double (increment n d) → sample_at b 16 ≡ increment n d
  unfolding bytes_from little_from
  increment_back h = double_back (increment n d) h

  pub index_back : Double i → sample_at b 24 ≡ i
  unfolding bytes_from little_from
  index_back h = double_back i h

-- ---- a record's kind and payload, of its own bytes
pub record_judged : (p : Page) (kind : ℕ) (payload : List ℕ) → is_kind kind ≡ true → length payload ≤ 64 → judged_record p (record_of kind payload) ≡ judge p kind payload
unfolding record_of
record_judged p kind payload k h =
    let r = record_of kind payload in
    ap (λ (n : ℕ). judge p kind (take n (drop 5 r))) (length_back kind payload k h)
    ∙ ap (judge p kind) (take-append_seam payload (two_of (sum_of (body_of kind payload))))

-- ---- a log of good records is read as these
parts_are : (log : List ℕ) (at : ℕ) (rs : List (List ℕ)) (rest : List ℕ) → drop at log ≡ joined rs ++ rest → kept_parts log (kept_all at rs) ≡ rs
unfolding joined kept_all kept_parts
parts_are log at [] rest e = refl
parts_are log at (r ∷ rs) rest e =
    let here : drop at log ≡ r ++ (joined rs ++ rest) = e ∙ append_assoc r (joined rs) rest in
    let on = past_part log at r (joined rs ++ rest) here in
    ap (λ (q : List ℕ). q ∷ kept_parts log (kept_all (at + length r) rs)) (ap (take (length r)) here ∙ take-append_seam r (joined rs ++ rest))
    ∙ ap (λ (q : List (List ℕ)). r ∷ q) (parts_are log (at + length r) rs rest on)

pub good_parts : (rs : List (List ℕ)) → AllGood rs → kept_parts (joined rs) (listing (joined rs)) ≡ rs
good_parts rs g = ap (kept_parts (joined rs)) (alone_kept rs g) ∙ parts_are (joined rs) 0 rs [] (sym (append-nil (joined rs)))
