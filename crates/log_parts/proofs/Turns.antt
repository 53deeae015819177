-- How a turn goes on by a stretch. Assumes nothing.
use mathlib.Core.List.{List}
use mathlib.Core.Path.{◌≡◌, sym, ap, ◌∙◌, subst}
use Prim.Native.Nat.{ℕ, ◌+◌, ◌-◌, ◌≤◌}
use native.Mathlib.Omega.{arith}
use lib.ListN.{length, take, drop, length-take, length-drop}
use lib.Seq.{take_all, take-take, drop-drop}
use Rattle.std.specs.Prelude.{Option}
use Rattle.log_salvage.specs.declared.Stretch.{Stretch}
use Rattle.log_parts.specs.declared.part.Part.{Part}
use Rattle.log_parts.specs.declared.walk.Walk.{Walk}
use Rattle.log_parts.specs.Walk.{walk_after, length_of}
use Rattle.log_parts.specs.Turn.{Inside, unwalked, Follows, Turned}

-- n bytes of a list behind the first `at`
behind : (l : List ℕ) (at n : ℕ) → take (length (drop at l) - n) (drop (at + n) l) ≡ drop n (drop at l)
behind l at n =
    take_all (length (drop at l) - n) (drop (at + n) l) (omega (arith, length-drop at l, length-drop (at + n) l))
    ∙ sym (drop-drop n at l)

module _ (p p' : Part) (buf : List ℕ) where
  pub follows_on : (n : ℕ) → p'.at ≡ p.at + n → p'.end ≡ p.end → Follows n p buf p' buf
  follows_on n a e = rw (a, e) (behind (take p.end buf) p.at n)

  pub inside_on : (n : ℕ) → Inside p buf → p.at + n ≤ p.end → p'.at ≡ p.at + n → p'.end ≡ p.end → Inside p' buf
  inside_on n i h a e = (omega arith, omega arith)

  pub inside_stay : p' ≡ p → Inside p buf → Inside p' buf
  inside_stay e i = rw e i

  pub follows_stay : p' ≡ p → Follows 0 p buf p' buf
  follows_stay e = follows_on 0 (omega (arith, ap (λ (q : Part). q.at) e)) (ap (λ (q : Part). q.end) e)

  pub follows_more : (buf' : List ℕ) → Inside p buf → p'.at ≡ 0 → p.end - p.at ≤ p'.end → take (p.end - p.at) buf' ≡ unwalked p buf → Follows 0 p buf p' buf'
  follows_more buf' i a h e =
      let l : length (unwalked p buf) - 0 ≡ p.end - p.at = omega (arith, length-drop p.at (take p.end buf), length-take p.end buf) in
      rw (a, l) (take-take (p.end - p.at) p'.end buf' h ∙ e)

-- over the stretch t, which is known as s; over none at the end of the part
pub turned : (s t : Option Stretch) → s ≡ t → (w w' : Walk) (p p' : Part) (buf buf' : List ℕ) → w' ≡ walk_after w s → Follows (length_of s) p buf p' buf' → Turned t w p buf w' p' buf'
turned s t e w w' p p' buf buf' v f = record { walk = v ∙ ap (walk_after w) e; rest = subst (λ (u : Option Stretch). Follows (length_of u) p buf p' buf') e f }
