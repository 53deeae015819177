-- The node rule of the tables: a computed test gives the factors at each node, and by linearity what the rows give on any samples.
-- Assumes nothing.
use mathlib.Core.Bool.{Bool, cond}
use mathlib.Core.List.{List, [], ◌∷◌}
use mathlib.Core.Logic.{⊎_elim}
use mathlib.Core.Path.{◌≡◌, refl, sym, ap, ◌∙◌}
use Prim.Native.Nat.{ℕ, zero, suc, ◌<◌}
use native.Mathlib.Nat.{eq-or-lt_of_le, not-suc-le-zero, le_of_suc-le-suc}
use native.Mathlib.Omega.{arith}
use lib.Dec.{T, eqb, eqb→eq, eqb-zero-suc, eqb-suc-zero, eqb-suc-suc}
use lib.Ieee.Fits.{and_l, and_r}
use lib.IntN.{ℤ, pos, negsuc, sub_ℕ, ◌+ℤ◌, ◌*ℤ◌, +ℤ_idl, +ℤ_idr, zero-*ℤ, *ℤ-zero}
use lib.ListN.{length}
use Rattle.asynchro_fast.specs.declared.PolynomialDegree.TheVariants.{Quintic, Septic}
use Rattle.asynchro_fast.specs.Degrees.{points_of, before_of}
use Rattle.asynchro_fast.specs.Nodes.{entry, weighted, horner_on, rows_at, factor_at, sameℤ, all_below, septic_scale, quintic_scale, node_rule, nodes_hold}
use Rattle.rows.specs.Rows.{septic_rows, quintic_rows}
use Rattle.asynchro_fast.proofs.Integers.{swap_middle, add-mul, mul-add, mul_assoc}

-- ---- what the test says

same_eq : (a b : ℤ) → T (sameℤ a b) → a ≡ b
same_eq (pos m) (pos n) t = ap pos (eqb→eq m n t)
same_eq (pos m) (negsuc n) t = absurd t
same_eq (negsuc m) (pos n) t = absurd t
same_eq (negsuc m) (negsuc n) t = ap negsuc (eqb→eq m n t)

below_at : (n : ℕ) (f : ℕ → Bool) → T (all_below n f) → (k : ℕ) → k < n → T (f k)
below_at zero f t k h = absurd (not-suc-le-zero h)
below_at (suc n) f t k h =
    ⊎_elim (λ (e : k ≡ n). rw e (and_l (f n) (all_below n f) t)) (λ (l : k < n). below_at n f (and_r (f n) (all_below n f) t) k l)
    (eq-or-lt_of_le (le_of_suc-le-suc h))

-- the factor of the sample j at the node i, for every table that passes the test
pub factor_at_lem : (rows : List (List ℤ)) (points before scale : ℕ) → T (nodes_hold rows points before scale)
    → (i j : ℕ) → i < points → j < points → factor_at rows j (sub_ℕ i before) ≡ cond (eqb i j) (pos scale) (pos 0)
factor_at_lem rows points before scale t i j hi hj =
    same_eq _ _ (below_at points (node_rule rows before scale i) (below_at points (λ i. all_below points (node_rule rows before scale i)) t i hi) j hj)

-- ---- weighted sums

weighted_same : (f g : ℕ → ℤ) (ys : List ℤ) → ((j : ℕ) → j < length ys → f j ≡ g j) → weighted f ys ≡ weighted g ys
unfolding weighted
weighted_same f g [] h = refl
weighted_same f g (y ∷ ys) h =
    ap (λ (t : ℤ). t *ℤ y +ℤ weighted (λ j. f (suc j)) ys) (h 0 (omega arith))
    ∙ ap (λ (t : ℤ). g 0 *ℤ y +ℤ t) (weighted_same (λ j. f (suc j)) (λ j. g (suc j)) ys (λ j l. h (suc j) (omega arith)))

none_first : (y t : ℤ) → pos 0 *ℤ y +ℤ t ≡ t
none_first y t = ap (λ (u : ℤ). u +ℤ t) (zero-*ℤ y) ∙ +ℤ_idl t

weighted_none : (ys : List ℤ) → weighted (λ j. pos 0) ys ≡ pos 0
unfolding weighted
weighted_none [] = refl
weighted_none (y ∷ ys) = none_first y _ ∙ weighted_none ys

-- all but one factor are 0
weighted_one : (s : ℤ) (ys : List ℤ) (i : ℕ) → i < length ys → weighted (λ j. cond (eqb i j) s (pos 0)) ys ≡ s *ℤ entry ys i
unfolding weighted
weighted_one s [] i h = absurd (not-suc-le-zero h)
weighted_one s (y ∷ ys) zero h = simp eqb-zero-suc (ap (λ (t : ℤ). s *ℤ y +ℤ t) (weighted_none ys) ∙ +ℤ_idr (s *ℤ y))
weighted_one s (y ∷ ys) (suc i) h = simp (eqb-suc-zero, eqb-suc-suc) (none_first y _ ∙ weighted_one s ys i (le_of_suc-le-suc h))

weighted_linear : (f g : ℕ → ℤ) (x : ℤ) (ys : List ℤ) → weighted f ys +ℤ x *ℤ weighted g ys ≡ weighted (λ j. f j +ℤ x *ℤ g j) ys
unfolding weighted
weighted_linear f g x [] = +ℤ_idl _ ∙ *ℤ-zero x
weighted_linear f g x (y ∷ ys) =
    let F = weighted (λ j. f (suc j)) ys in
    let G = weighted (λ j. g (suc j)) ys in
    ap (λ (t : ℤ). (f 0 *ℤ y +ℤ F) +ℤ t) (mul-add x (g 0 *ℤ y) G)
    ∙ swap_middle (f 0 *ℤ y) F (x *ℤ (g 0 *ℤ y)) (x *ℤ G)
    ∙ ap (λ (t : ℤ). (f 0 *ℤ y +ℤ t) +ℤ (F +ℤ x *ℤ G)) (sym (mul_assoc x (g 0) y))
    ∙ ap (λ (t : ℤ). t +ℤ (F +ℤ x *ℤ G)) (sym (add-mul (f 0) (x *ℤ g 0) y))
    ∙ ap (λ (t : ℤ). (f 0 +ℤ x *ℤ g 0) *ℤ y +ℤ t) (weighted_linear (λ j. f (suc j)) (λ j. g (suc j)) x ys)

-- ---- what the rows give is the samples with their factors

from_factors : (rows : List (List ℤ)) (g : ℕ → ℤ) (x : ℤ) (ys : List ℤ)
    → horner_on (λ r. weighted (entry r) ys) x (weighted g ys) rows ≡ weighted (λ j. horner_on (λ r. entry r j) x (g j) rows) ys
unfolding horner_on
from_factors [] g x ys = refl
from_factors (r ∷ rs) g x ys =
    ap (λ (t : ℤ). horner_on (λ r. weighted (entry r) ys) x t rs) (weighted_linear (entry r) g x ys)
    ∙ from_factors rs (λ j. entry r j +ℤ x *ℤ g j) x ys

pub rows_factors : (rows : List (List ℤ)) (x : ℤ) (ys : List ℤ) → rows_at rows x ys ≡ weighted (λ j. factor_at rows j x) ys
rows_factors rows x ys =
    ap (λ (t : ℤ). horner_on (λ r. weighted (entry r) ys) x t rows) (sym (weighted_none ys)) ∙ from_factors rows (λ j. pos 0) x ys

-- ---- the node rule, one law for every table, and the two tables

pub node_rule_lem : (rows : List (List ℤ)) (points before scale : ℕ) → T (nodes_hold rows points before scale)
    → (ys : List ℤ) → length ys ≡ points → (i : ℕ) → i < points → rows_at rows (sub_ℕ i before) ys ≡ pos scale *ℤ entry ys i
node_rule_lem rows points before scale t ys l i h =
    rows_factors rows (sub_ℕ i before) ys
    ∙ weighted_same _ _ ys (λ j k. factor_at_lem rows points before scale t i j h (omega arith))
    ∙ weighted_one (pos scale) ys i (omega arith)

pub septic_node : (ys : List ℤ) → length ys ≡ points_of Septic → (i : ℕ) → i < points_of Septic
    → rows_at septic_rows (sub_ℕ i (before_of Septic)) ys ≡ pos septic_scale *ℤ entry ys i
unfolding horner_on
septic_node = node_rule_lem septic_rows 8 3 septic_scale tt

pub quintic_node : (ys : List ℤ) → length ys ≡ points_of Quintic → (i : ℕ) → i < points_of Quintic
    → rows_at quintic_rows (sub_ℕ i (before_of Quintic)) ys ≡ pos quintic_scale *ℤ entry ys i
unfolding horner_on
quintic_node = node_rule_lem quintic_rows 6 2 quintic_scale tt
