-- `decimals::numbers::decimal` meets its contract: nineteen digits fit, and so does their number. Assumes nothing.
use Rattle.std.proofs.Common.{ℕ, ◌<◌, ◌∙◌, sym, subst, arith}
use Rattle.decimals.proofs.Words.{ten_pos, decimal_long, decimal_bad, decimal_bad_2, decimal_fits, decimal_is}
use Rattle.decimals.proofs.numbers.decimal.Goals as goal

pub returns-then-places-gt19 : goal.returns-then-places-gt19
returns-then-places-gt19 c = decimal_long _ _ (omega arith)

pub returns-then-counting-places : goal.returns-then-counting-places
returns-then-counting-places c = decimal_long _ _ (omega arith)

pub returns-in_err-n : goal.returns-in_err-n
returns-in_err-n c = c.from_residual.ensures ∙ decimal_bad _ _ (omega arith) _ c.decimal_of.ensures c.in_err-n.was

pub returns-in_err-k : goal.returns-in_err-k
returns-in_err-k c = c.from_residual-in_err-k.ensures ∙ decimal_bad_2 _ _ (omega arith) _ c.decimal_of.ensures _ c.in_ok-n.was _ c.decimal_of-2.ensures c.in_err-k.was

pub overflow_mul-n : goal.overflow_mul-n
overflow_mul-n c = omega (arith, decimal_fits _ _ (omega arith) _ c.decimal_of.ensures _ c.in_ok-n.was _ c.decimal_of-2.ensures _ _ c.in_ok-k.was c.power_of_ten-ten.ensures)

pub overflow_add-n : goal.overflow_add-n
overflow_add-n c = omega (arith, decimal_fits _ _ (omega arith) _ c.decimal_of.ensures _ c.in_ok-n.was _ c.decimal_of-2.ensures _ _ c.in_ok-k.was c.power_of_ten-ten.ensures)

pub nearest-requires : goal.nearest-requires
nearest-requires c = subst (λ (z : ℕ). 0 < z) (sym c.power_of_ten-ten.ensures) (ten_pos _)

pub returns : goal.returns
returns c = decimal_is _ _ (omega arith) _ c.decimal_of.ensures _ c.in_ok-n.was _ c.decimal_of-2.ensures _ _ c.in_ok-k.was c.power_of_ten-ten.ensures _ c.nearest.ensures
