-- What a text leaves: it is put where there is room for it, and the buffer stays as it is where there is none. Assumes nothing.
use mathlib.Core.List.{List, ◌++◌}
use mathlib.Core.Path.{◌≡◌, refl, sym, ap, ◌∙◌, subst}
use Prim.Native.Nat.{ℕ, ◌+◌, ◌<◌, ◌≤◌}
use native.Mathlib.Omega.{arith}
use native.Mathlib.Nat.{add_assoc, le_refl}
use borrow.Author.Tests.{le-leb, lt-leb}
use lib.ListN.{length, take, drop, length-append}
use lib.Seq.{paste, length-paste, take-length, take-append_seam, take-append-add}
use Rattle.printer.specs.Put.{put_in, place_after}
use Rattle.printer.proofs.Pastes.{Pasted, pasted_part}

-- the text w put into d at the place at leaves y, and r is the place behind it
abbrev pub TextPut : List ℕ → ℕ → List ℕ → ℕ → List ℕ → Type 0
TextPut d at w r y = (r ≡ place_after (length d) at (length w)) × (y ≡ put_in d at w)

pub same_text : (d : List ℕ) (at : ℕ) (w v : List ℕ) (r : ℕ) (y : List ℕ) → w ≡ v → TextPut d at w r y → TextPut d at v r y
same_text d at w v r y e p = subst (λ (t : List ℕ). TextPut d at t r y) e p

-- w has k bytes
module _ (d : List ℕ) (at : ℕ) (w : List ℕ) (k : ℕ) (e : k ≡ length w) where
  pub fitted : (y : List ℕ) → at + k ≤ length d → y ≡ paste d at w k → TextPut d at w (at + k) y
  unfolding place_after put_in
  fitted y h p = rw (← e, le-leb (at + k) (length d) h) (refl, p)

  pub kept_out : length d < at + k → TextPut d at w (length d) d
  unfolding place_after put_in
  kept_out h = rw (← e, lt-leb (at + k) (length d) h) (refl, refl)

-- where there is room
module _ (d : List ℕ) (at : ℕ) (w : List ℕ) (h : at + length w ≤ length d) where
  put_is : put_in d at w ≡ paste d at w (length w)
  unfolding put_in
  put_is = rw (le-leb (at + length w) (length d) h)

  place_is : place_after (length d) at (length w) ≡ at + length w
  unfolding place_after
  place_is = rw (le-leb (at + length w) (length d) h)

-- one text behind another, where there is room for both
pub text_behind : (d : List ℕ) (at : ℕ) (v w x : List ℕ) (r : ℕ) (y : List ℕ) → at + (length v + length w) ≤ length d
    → x ≡ put_in d at v → TextPut x (at + length v) w r y → TextPut d at (v ++ w) r y
text_behind d at v w x r y h p q =
    let m = length v in
    let n = length w in
    let whole : m + n ≡ length (v ++ w) = sym (length-append v w) in
    let front : take m v ≡ take m (v ++ w) = take-length v ∙ sym (take-append_seam v w) in
    let first : x ≡ paste d at v m = p ∙ put_is d at v (omega arith) in
    let long : length x ≡ length d = ap length first ∙ length-paste d at v m (omega arith) (le_refl m) in
    let room : at + m + n ≤ length x = omega arith in
    let begun : Pasted d at (v ++ w) x m = record { long = long; is = first ∙ ap (λ (t : List ℕ). take at d ++ t ++ drop (at + m) d) front } in
    let joined : take m (v ++ w) ++ take n w ≡ take (m + n) (v ++ w) = ap (λ (t : List ℕ). t ++ take n w) (take-append_seam v w) ∙ sym (take-append-add v w n) in
    let done = pasted_part d at (v ++ w) x w y m n begun (omega arith) (omega arith) (le_refl n) joined (q.1 ∙ put_is x (at + m) w room) in
    let f = fitted d at (v ++ w) (m + n) whole y h done.is in
    (q.0 ∙ place_is x (at + m) w room ∙ add_assoc at m n ∙ f.0, f.1)
