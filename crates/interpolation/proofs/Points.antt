-- Document 01, "Grid points": index*factor+subindex = q, and the subindex lies in 0..factor-1; and these two settle the point. Assumes nothing.
use Rattle.std.proofs.Common.{◌≡◌, ℕ, suc, ◌+◌, ◌-◌, ◌*◌, ◌/◌, ◌%◌, ◌<◌, ℤ, pos, negsuc, ◌+ℤ◌, ◌*ℤ◌, sym, ap, ◌∙◌, subst, mod-lt, div-add-mod', arith}
use native.Mathlib.Nat.{div-eq_of_lt, mul-add-div_right}
use Rattle.exact.specs.Whole.{◌⊕◌, ◌⊙◌}
use Rattle.exact.specs.Integers.{pair_of, Is}
use Rattle.exact.proofs.Integers.{pair_is}
use Rattle.interpolation.specs.Grid.{Numbered, point_of}
use Rattle.interpolation.specs.declared.Point.{Point}
use Rattle.interpolation.proofs.Integers.{same_int, is_same, at_is}

pub point_equation : (factor : ℕ) (q : ℤ) → 0 < factor → Numbered factor q (point_of factor q)
unfolding point_of
point_equation f (pos n) h = record { equation = ap pos (div-add-mod' n f); inside = mod-lt n h }
point_equation f (negsuc n) h =
    let r = mod-lt n h in
    record {
      equation = same_int (negsuc (n / f) *ℤ pos f +ℤ pos (f - 1 - n % f)) (negsuc n) (f ⊙ (0, suc (n / f)) ⊕ (f - 1 - n % f, 0)) (0, suc n)
          (at_is (negsuc (n / f)) f (f - 1 - n % f) (0, suc (n / f)) (pair_is (negsuc (n / f)))) (pair_is (negsuc n))
          (omega (arith, div-add-mod' n f));
      inside = omega arith;
    }

-- what is left over of a and b whole times is equal, and so are they
once_divided : (f a b r s : ℕ) → r < f → s < f → a * f + r ≡ b * f + s → (a ≡ b) × (r ≡ s)
once_divided f a b r s h k e =
    let P : 0 < f = omega arith in
    let w : a ≡ b = omega (arith, sym (mul-add-div_right P a r) ∙ ap (λ (x : ℕ). x / f) e ∙ mul-add-div_right P b s, div-eq_of_lt h, div-eq_of_lt k) in
    (w, omega (arith, ap (λ (x : ℕ). x * f) w))

same_parts : (p o : Point) → p.index ≡ o.index → p.subindex ≡ o.subindex → p ≡ o
same_parts p o h k = ap (λ (i : ℤ). made i p.subindex) h ∙ ap (made o.index) k
  where
    made : ℤ → ℕ → Point
    made i s = record { index = i; subindex = s }

pub numbered_once : (factor : ℕ) (q : ℤ) (p o : Point) → Numbered factor q p → Numbered factor q o → p ≡ o
numbered_once f q p o h k =
    let v = pair_of p.index in
    let w = pair_of o.index in
    let e = is_same q (f ⊙ v ⊕ (p.subindex, 0)) (f ⊙ w ⊕ (o.subindex, 0))
    (subst (λ (z : ℤ). Is z (f ⊙ v ⊕ (p.subindex, 0))) h.equation (at_is p.index f p.subindex v (pair_is p.index)))
    (subst (λ (z : ℤ). Is z (f ⊙ w ⊕ (o.subindex, 0))) k.equation (at_is o.index f o.subindex w (pair_is o.index))) in
    let d = once_divided f (v.0 + w.1) (w.0 + v.1) p.subindex o.subindex h.inside k.inside (omega arith) in
    same_parts p o (same_int p.index o.index v w (pair_is p.index) (pair_is o.index) d.0) d.1

pub point_unique : (factor : ℕ) (q : ℤ) (p : Point) → Numbered factor q p → p ≡ point_of factor q
point_unique f q p h = go (numbered_pos f p.subindex h.inside)
  where
    numbered_pos : (f r : ℕ) → r < f → 0 < f
    numbered_pos f r h = omega arith

    go : 0 < f → p ≡ point_of f q
    go P = numbered_once f q p (point_of f q) h (point_equation f q P)
