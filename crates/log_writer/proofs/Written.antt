-- The writer: its sum, the parts of a record one behind the other, and what it leaves. Assumes nothing.
use mathlib.Core.Bool.{true}
use mathlib.Core.List.{List, ◌∷◌, ◌++◌}
use mathlib.Core.Path.{◌≡◌, sym, ap, ◌∙◌, subst}
use Prim.Native.Nat.{ℕ, ◌+◌, ◌≤◌}
use native.Mathlib.Nat.{zero-add}
use native.Mathlib.Omega.{arith}
use borrow.Author.Tests.{le-leb, leb-true}
use lib.Dec.{leb}
use lib.Ieee.{Float}
use lib.ListN.{length, take, drop, length-append, length-drop}
use lib.Seq.{take_all, take-length}
use Rattle.error.specs.Refusals.{Said, given, refused}
use Rattle.error.proofs.Ladder.{both}
use Rattle.printer.specs.Put.{put_in}
use Rattle.printer.proofs.Texts.{TextPut, text_behind}
use Rattle.log_records.specs.Records.{two_of, is_kind, total, sum_of, record_of}
use Rattle.log_writer.specs.Writer.{put_said, placed, put_area}
use Rattle.log_records.proofs.Sums.{total_append}

pub kind_most : (kind : ℕ) → is_kind kind ≡ true → kind ≤ 4
kind_most kind h = leb-true kind 4 (both (leb 1 kind) (leb kind 4) h).1

-- the head's three bytes behind the mark and the payload's, summed apart
pub sums_joined : (head payload : List ℕ) (a b : ℕ) → length head ≡ 5 → a ≡ total (take 3 (drop 2 head)) → b ≡ total (take (length payload) (drop 0 payload))
    → a + b ≡ total (drop 2 head ++ payload)
sums_joined head payload a b l e f =
    let whole : take 3 (drop 2 head) ≡ drop 2 head = take_all 3 (drop 2 head) (omega (arith, length-drop 2 head)) in
    omega (arith, e ∙ ap total whole, f ∙ ap total (take-length payload), total_append (drop 2 head) payload)

put_front : (out w : List ℕ) → length w ≤ length out → put_in out 0 w ≡ w ++ drop (length w) out
unfolding put_in
put_front out w h =
    rw (zero-add (length w), le-leb (length w) (length out) h, take-length w)

-- head, payload and sum, each behind the one before
pub record_put : (kind : ℕ) (payload out head sum x y z : List ℕ) (p q r : ℕ) → 7 + length payload ≤ length out
    → head ≡ 0xD7 ∷ 0x1A ∷ kind ∷ two_of (length payload) → sum ≡ two_of (sum_of (drop 2 head ++ payload))
    → TextPut out 0 head p x → TextPut x 5 payload q y → TextPut y (5 + length payload) sum r z
    → z ≡ record_of kind payload ++ drop (7 + length payload) out
unfolding record_of
record_put kind payload out head sum x y z p q r h e f a b c =
    let five : length head ≡ 5 = ap length e in
    let two : length sum ≡ 2 = ap length f in
    let n = length payload in
    let both_long : length (head ++ payload) ≡ 5 + n = length-append head payload ∙ ap (λ (i : ℕ). i + n) five in
    let first = text_behind out 0 head payload x q y (omega arith) a.1 (subst (λ (i : ℕ). TextPut x i payload q y) (sym five ∙ sym (zero-add (length head))) b) in
    let all = text_behind out 0 (head ++ payload) sum y r z (omega arith) first.1 (subst (λ (i : ℕ). TextPut y i sum r z) (sym both_long ∙ sym (zero-add (length (head ++ payload)))) c) in
    let long : length ((head ++ payload) ++ sum) ≡ 7 + n = omega (arith, length-append (head ++ payload) sum) in
    all.1 ∙ put_front out ((head ++ payload) ++ sum) (omega arith)
    ∙ ap (λ (i : ℕ). ((head ++ payload) ++ sum) ++ drop i out) long
    ∙ ap (λ (t : List ℕ). ((head ++ payload) ++ t) ++ drop (7 + n) out) f
    ∙ ap (λ (t : List ℕ). ((t ++ payload) ++ two_of (sum_of (drop 2 t ++ payload))) ++ drop (7 + n) out) e

-- what a refusal leaves, and what a record
pub not_put : (kind : ℕ) (payload out : List ℕ) (n : ℕ) (vs : List Float) → refused n vs ≡ put_said kind payload (length out) → out ≡ put_area kind payload out
unfolding placed
not_put kind payload out n vs e = ap (λ (s : Said ℕ). placed s (record_of kind payload) out) e

pub put : (kind : ℕ) (payload out z : List ℕ) (n m : ℕ) → given n ≡ put_said kind payload (length out) → n ≡ m → z ≡ record_of kind payload ++ drop m out
    → z ≡ put_area kind payload out
unfolding placed
put kind payload out z n m e h f =
    f ∙ ap (λ (i : ℕ). record_of kind payload ++ drop i out) (sym h) ∙ ap (λ (s : Said ℕ). placed s (record_of kind payload) out) e
