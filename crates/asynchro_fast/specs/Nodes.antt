-- Document 01, "Kernels": over whole numbers, at node x the rows give 5040 (120) times that node's sample, for every node. Definitions only.
use Rattle.std.specs.Prelude.{Bool, true, false, cond, ◌&&◌, List, [], ◌∷◌, ℕ, zero, suc, eqb, ℤ, pos, negsuc, ◌+ℤ◌, ◌*ℤ◌, get_or}
use Rattle.std.proofs.Math.IntN.{sub_ℕ}

-- what a list of whole numbers has at j
abbrev pub entry : List ℤ → ℕ → ℤ
entry r j = get_or r j (pos 0)

-- f 0 * ys[0] + f 1 * ys[1] + ..
unfoldable pub weighted : (ℕ → ℤ) → List ℤ → ℤ
weighted f [] = pos 0
weighted f (y ∷ ys) = f 0 *ℤ y +ℤ weighted (λ j. f (suc j)) ys

-- Horner, with the number f gives for each row: that of the next row plus x times what the rows before it gave
unfoldable pub horner_on : (List ℤ → ℤ) → ℤ → ℤ → List (List ℤ) → ℤ
horner_on f x acc [] = acc
horner_on f x acc (r ∷ rs) = horner_on f x (f r +ℤ x *ℤ acc) rs

-- what the rows give at x on the samples ys: each row's sum, then Horner
abbrev pub rows_at : List (List ℤ) → ℤ → List ℤ → ℤ
rows_at rows x ys = horner_on (λ r. weighted (entry r) ys) x (pos 0) rows

-- the factor that the sample number j has in that
abbrev pub factor_at : List (List ℤ) → ℕ → ℤ → ℤ
factor_at rows j x = horner_on (λ r. entry r j) x (pos 0) rows

abbrev pub sameℤ : ℤ → ℤ → Bool
sameℤ (pos m) (pos n) = eqb m n
sameℤ (pos m) (negsuc n) = false
sameℤ (negsuc m) (pos n) = false
sameℤ (negsuc m) (negsuc n) = eqb m n

-- the test f passes below n
abbrev pub all_below : ℕ → (ℕ → Bool) → Bool
all_below zero f = true
all_below (suc n) f = f n && all_below n f

-- "5040 (120) times"
abbrev pub septic_scale : ℕ
septic_scale = 5040

abbrev pub quintic_scale : ℕ
quintic_scale = 120

-- the nodes are -before, .., 0, 1, ..: node number i is i - before. A sample has the factor scale at its own node and 0 at the others
abbrev pub node_rule : List (List ℤ) → ℕ → ℕ → ℕ → ℕ → Bool
node_rule rows before scale i j = sameℤ (factor_at rows j (sub_ℕ i before)) (cond (eqb i j) (pos scale) (pos 0))

-- the rule, as one computed test
abbrev pub nodes_hold : List (List ℤ) → ℕ → ℕ → ℕ → Bool
nodes_hold rows points before scale = all_below points (λ i. all_below points (λ j. node_rule rows before scale i j))
