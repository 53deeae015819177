-- The loop of `place`: each turn moves one whole time from the parts to the index. Assumes nothing.
use Rattle.std.proofs.Common.{◌≡◌, ℕ, suc, ◌+◌, ◌-◌, ◌*◌, ◌<◌, ◌≤◌, ℤ, pos, negsuc, ◌+ℤ◌, ◌-ℤ◌, ◌*ℤ◌, nat_abs, sym, ap, ◌∙◌, le-mul_of_pos_right, arith, w64, SFits}
use lib.IntN.{+ℤ_idr, +ℤ_assoc}
use Rattle.exact.specs.Whole.{Whole, ◌⊕◌, ◌⊙◌}
use Rattle.exact.specs.Integers.{pair_of, Is}
use Rattle.exact.proofs.Integers.{pair_is, pair_abs, plus_is, abs_le}
use Rattle.whole.proofs.Casts.{abs_fits}
use Rattle.interpolation.specs.Grid.{point_of}
use Rattle.interpolation.specs.Steps.{start_q}
use Rattle.interpolation.specs.declared.Start.{Start}
use Rattle.interpolation.proofs.Integers.{same_int, at_is}
use Rattle.interpolation.proofs.Points.{point_unique}

-- so many turns were made
pub record Carried (factor : ℕ) (index₀ : ℤ) (parts₀ : ℕ) (index : ℤ) (parts : ℕ) : Type 0 where
  pub turns : ℕ
  pub index_is : index ≡ index₀ +ℤ pos turns
  pub parts_are : turns * factor + parts ≡ parts₀

pub carried_none : (f : ℕ) (i : ℤ) (p : ℕ) → Carried f i p i p
carried_none f i p = record { turns = 0; index_is = sym (+ℤ_idr i); parts_are = omega arith }

pub carried_next : {f : ℕ} {i₀ : ℤ} {p₀ : ℕ} {i : ℤ} {p : ℕ} (j : ℤ) → Carried f i₀ p₀ i p → f ≤ p → j ≡ i +ℤ pos 1 → Carried f i₀ p₀ j (p - f)
carried_next {f} {i₀} {p₀} {i} {p} j c h e = record {
  turns = c.turns + 1;
  index_is = e ∙ ap (λ (z : ℤ). z +ℤ pos 1) c.index_is ∙ +ℤ_assoc i₀ (pos c.turns) (pos 1);
  parts_are = omega (arith, c.parts_are);
}

-- the start lies one whole time lower than s, and so many parts further on
pub record Begun (s : Start) (f ahead : ℕ) (i₀ : ℤ) (p₀ : ℕ) : Type 0 where
  pub lower : i₀ ≡ s.index -ℤ pos 1
  pub further : suc p₀ ≡ s.parts + f + ahead

module _ {s : Start} {f ahead : ℕ} {i₀ : ℤ} {p₀ : ℕ} {i : ℤ} {p : ℕ} (b : Begun s f ahead i₀ p₀) (c : Carried f i₀ p₀ i p) where
  abbrev v : Whole
  v = pair_of s.index ⊕ (0, 1) ⊕ (c.turns, 0)

  index_pair : Is i v
  index_pair =
      rw (c.index_is, b.lower)
      (plus_is (s.index -ℤ pos 1) (pos c.turns) (pair_of s.index ⊕ (0, 1)) (c.turns, 0)
      (plus_is s.index (negsuc 0) (pair_of s.index) (0, 1) (pair_is s.index) (pair_is (negsuc 0))) (pair_is (pos c.turns)))

  -- one more turn keeps the index an i64
  pub carried_fits : 0 < f → f ≤ p → nat_abs s.index ≤ 4503599627370496 → p₀ ≤ 4503599627370496 → SFits w64 (i +ℤ pos 1)
  carried_fits P h k l =
      let a = pair_abs s.index in
      let t : c.turns ≤ c.turns * f = le-mul_of_pos_right c.turns P in
      abs_fits (i +ℤ pos 1) (abs_le 4611686018427387904 (i +ℤ pos 1) (v ⊕ (1, 0)) (plus_is i (pos 1) v (1, 0) index_pair (pair_is (pos 1))) (omega (arith, c.parts_are)) (omega (arith, c.parts_are)))

  -- fewer parts than a whole time has are left: this is the point
  pub carried_done : p < f → record { index = i; subindex = p } ≡ point_of f (start_q f s +ℤ (pos ahead -ℤ pos 1))
  carried_done h =
      let w = f ⊙ pair_of s.index ⊕ (s.parts, 0) in
      let o = (ahead, 0) ⊕ (0, 1) in
      point_unique f (start_q f s +ℤ (pos ahead -ℤ pos 1)) (record { index = i; subindex = p })
      (record {
        equation = same_int (i *ℤ pos f +ℤ pos p) (start_q f s +ℤ (pos ahead -ℤ pos 1)) (f ⊙ v ⊕ (p, 0)) (w ⊕ o) (at_is i f p v index_pair)
            (plus_is (start_q f s) (pos ahead -ℤ pos 1) w o (at_is s.index f s.parts (pair_of s.index) (pair_is s.index)) (plus_is (pos ahead) (negsuc 0) (ahead, 0) (0, 1) (pair_is (pos ahead)) (pair_is (negsuc 0))))
            (omega (arith, c.parts_are, b.further));
        inside = h;
      })
