-- The sum of a table, entry after entry. Assumes nothing.
use Rattle.std.proofs.Common.{◌≡◌, ℕ, ◌+◌, ◌<◌, ◌≤◌, List, length, get_or, drop, sym, ap, ◌∙◌, add-one, drop_of_length-le, drop-cons}
use lib.Ieee.{Float}
use Rattle.table_sum.specs.Sum.{plus_entry, sum_from, sum_of}
use Rattle.table_sum.specs.declared.TableSum.{TableSum}

-- s is the sum of the first j entries: the others, added to it, make the sum of all
pub record Summed (table : List Float) (s : TableSum) (j : ℕ) : Type 0 where
  pub rest : sum_from s (drop j table) ≡ sum_of table

module _ (table : List Float) (s : TableSum) (j : ℕ) (h : Summed table s j) where
  pub summed_next : (d : Float) (t : TableSum) → j < length table → t ≡ plus_entry s (get_or table j d) → Summed table t (j + 1)
  unfolding sum_from
  summed_next d t l e = record { rest = rw (e, add-one) (sym (ap (sum_from s) (drop-cons table j d l)) ∙ h.rest) }

  pub summed_done : length table ≤ j → s ≡ sum_of table
  unfolding sum_from
  summed_done l = sym (ap (sum_from s) (drop_of_length-le table l)) ∙ h.rest
