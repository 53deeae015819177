-- One text behind another in a buffer that has room for both. Assumes nothing.
use mathlib.Core.List.{List, [], ◌++◌}
use mathlib.Core.Path.{◌≡◌, refl, sym, ap, ◌∙◌, subst}
use mathlib.Core.Bool.{Bool, true, false}
use Prim.Native.Nat.{ℕ, ◌+◌, ◌<◌, ◌≤◌}
use native.Mathlib.Omega.{arith}
use native.Mathlib.Nat.{le_refl, add-zero, zero-add}
use borrow.Author.Tests.{le-leb, lt-leb, leb-true, leb-false}
use lib.Dec.{leb}
use lib.ListN.{length, take}
use lib.Seq.{paste, paste-zero, length-paste, take-paste, take-length}
use Rattle.printer.specs.Put.{put_in, place_after}
use Rattle.printer.proofs.Texts.{TextPut, text_behind, fitted}

pub place_room : (size at k : ℕ) → at + k ≤ size → place_after size at k ≡ at + k
unfolding place_after
place_room size at k h = rw (le-leb (at + k) size h)

put_room : (d : List ℕ) (at : ℕ) (w : List ℕ) → at + length w ≤ length d → put_in d at w ≡ paste d at w (length w)
unfolding put_in
put_room d at w h = rw (le-leb (at + length w) (length d) h)

put_none : (d : List ℕ) (at : ℕ) (w : List ℕ) → length d < at + length w → put_in d at w ≡ d
unfolding put_in
put_none d at w h = rw (lt-leb (at + length w) (length d) h)

place_none : (size at k : ℕ) → size < at + k → place_after size at k ≡ size
unfolding place_after
place_none size at k h = rw (lt-leb (at + k) size h)

-- a text leaves the buffer as long as it was
pub put_length : (d : List ℕ) (at : ℕ) (w x : List ℕ) → x ≡ put_in d at w → length x ≡ length d
put_length d at w x e = go (leb (at + length w) (length d)) refl
  where
    go : (t : Bool) → leb (at + length w) (length d) ≡ t → length x ≡ length d
    go true h =
        let l = leb-true (at + length w) (length d) h in
        ap length (e ∙ put_room d at w l) ∙ length-paste d at w (length w) l (le_refl (length w))
    go false h = ap length (e ∙ put_none d at w (leb-false (at + length w) (length d) h))

-- and the place behind it is within
pub place_kept : (d : List ℕ) (w : List ℕ) (p : ℕ) (x : List ℕ) → TextPut d 0 w p x → p ≤ length x
place_kept d w p x f = go (leb (0 + length w) (length d)) refl
  where
    go : (t : Bool) → leb (0 + length w) (length d) ≡ t → p ≤ length x
    go true h =
        let l = leb-true (0 + length w) (length d) h in
        omega (arith, f.0 ∙ place_room (length d) 0 (length w) l, put_length d 0 w x f.1)
    go false h =
        omega (arith, f.0 ∙ place_none (length d) 0 (length w) (leb-false (0 + length w) (length d) h), put_length d 0 w x f.1)

-- v is put, and then w at the place behind it
pub text_then : (d : List ℕ) (at : ℕ) (v w : List ℕ) (p : ℕ) (x : List ℕ) (r : ℕ) (y : List ℕ) → at + (length v + length w) ≤ length d
    → TextPut d at v p x → TextPut x p w r y → TextPut d at (v ++ w) r y
text_then d at v w p x r y h f s =
    text_behind d at v w x r y h f.1 (subst (λ (i : ℕ). TextPut x i w r y) (f.0 ∙ place_room (length d) at (length v) (omega arith)) s)

pub nothing_put : (d : List ℕ) (at : ℕ) → at ≤ length d → TextPut d at [] at d
nothing_put d at h = subst (λ (i : ℕ). TextPut d at [] i d) (add-zero at) (fitted d at [] 0 refl d (omega arith) (paste-zero d at []))

-- what the front of the buffer holds
pub text_read : (d w : List ℕ) (r : ℕ) (y : List ℕ) → length w ≤ length d → TextPut d 0 w r y → take r y ≡ w
text_read d w r y h p =
    ap (λ (i : ℕ). take i y) (p.0 ∙ place_room (length d) 0 (length w) (omega arith) ∙ zero-add (length w)) ∙
    ap (take (length w)) (p.1 ∙ put_room d 0 w (omega arith)) ∙
    ap (λ (i : ℕ). take i (paste d 0 w (length w))) (sym (zero-add (length w))) ∙
    take-paste d 0 w (length w) (omega arith) (le_refl (length w)) ∙ take-length w
