-- Document 01, "Kernels": "Over whole numbers, at node x the rows give 5040 (120) times that node's sample, for every node." Proved in asynchro_fast, once for both tables. Assumes nothing.
-- The nodes are -b, .., 0, 1, ..: node number i is i - b. rows_at sums each row on the samples ys and goes by Horner at x, over ℤ.
use mathlib.Core.List.{List}
use mathlib.Core.Path.{◌≡◌}
use Prim.Native.Nat.{ℕ, ◌<◌}
use lib.IntN.{ℤ, pos, sub_ℕ, ◌*ℤ◌}
use lib.ListN.{length}
use Rattle.asynchro_fast.specs.Nodes.{entry, rows_at}
use Rattle.rows.specs.Rows.{septic_rows, quintic_rows}
use Rattle.asynchro_fast.proofs.Nodes.{septic_node, quintic_node}

pub septic_nodes : (ys : List ℤ) → length ys ≡ 8 → (i : ℕ) → i < 8 → rows_at septic_rows (sub_ℕ i 3) ys ≡ pos 5040 *ℤ entry ys i
septic_nodes = septic_node

pub quintic_nodes : (ys : List ℤ) → length ys ≡ 6 → (i : ℕ) → i < 6 → rows_at quintic_rows (sub_ℕ i 2) ys ≡ pos 120 *ℤ entry ys i
quintic_nodes = quintic_node
