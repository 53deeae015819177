-- What a block on the front parts leaves of the whole areas. Assumes nothing.
use mathlib.Core.List.{List, ◌++◌}
use mathlib.Core.Bool.{Bool, true, false}
use mathlib.Core.Path.{◌≡◌, refl, sym, ap, ◌∙◌}
use Prim.Native.Nat.{ℕ}
use borrow.Author.Tests.{leb-true, leb-false}
use lib.Dec.{leb}
use native.Mathlib.Omega.{arith}
use lib.Ieee.{Float}
use lib.ListN.{length, take, drop, replicate, drop_of_length-le}
use lib.Seq.{take_all, take-length, drop-length}
use Rattle.exact.specs.Doubles.{zero_f}
use Rattle.printer.specs.Within.{Within}
use Rattle.state.specs.declared.State.{State}
use Rattle.process.specs.declared.Sizes.{Sizes}
use Rattle.asynchro.specs.declared.Outcome.{Outcome}
use Rattle.process.specs.declared.Sizes.{Sizes}
use Rattle.process.specs.Block.{Block, block_of, block_left}
use Rattle.lent.specs.Lent.{area_length, work_length, behind, lent_of}

-- ---- the front that is lent is the front that the definition takes
module _ {A : Type 0} (n r : ℕ) (xs : List A) (w : Within n xs r) where
  pub front_is : take r xs ≡ take n xs
  front_is = go (leb n (length xs)) refl
    where
      go : (b : Bool) → leb n (length xs) ≡ b → take r xs ≡ take n xs
      go true e = let k = leb-true n (length xs) e in let q : r ≡ n = omega arith in rw q
      go false e = let k = leb-false n (length xs) e in let q : r ≡ length xs = omega arith in rw q (take-length xs ∙ sym (take_all n xs (omega arith)))

  pub rest_is : drop r xs ≡ drop n xs
  rest_is = go (leb n (length xs)) refl
    where
      go : (b : Bool) → leb n (length xs) ≡ b → drop r xs ≡ drop n xs
      go true e = let k = leb-true n (length xs) e in let q : r ≡ n = omega arith in rw q
      go false e = let k = leb-false n (length xs) e in let q : r ≡ length xs = omega arith in rw q (drop-length xs ∙ sym (drop_of_length-le xs {i = n} (omega arith)))

-- a, b and n are what the code lends, o what the block answers, p and q what it leaves of the lent parts
pub run_lent : (s : State) (frames mask : ℕ) (table input output work : List Float) (a b n la lb ln : ℕ) (o : Outcome Sizes) (p q : List Float)
    → la ≡ area_length s.channels s.input → Within la input a → lb ≡ area_length s.channels s.output → Within lb output b → ln ≡ work_length s → Within ln work n
    → block_left o p q ≡ block_of s frames mask table (take a input) (replicate (length (take b output)) zero_f) (take n work)
    → block_left o (p ++ drop b output) (q ++ drop n work) ≡ lent_of s frames mask table input output work
unfolding lent_of
run_lent s frames mask table input output work a b n la lb ln o p q ea wa eb wb en wn e =
    ap (λ (x : Block Sizes). behind x (drop b output) (drop n work)) e
    ∙ rw (front_is la a input wa, front_is lb b output wb, front_is ln n work wn, rest_is lb b output wb, rest_is ln n work wn, ea, eb, en)

pub run_zeros : (s : State) (frames mask : ℕ) (table input output zeros work : List Float) (x : Block Sizes) → zeros ≡ replicate (length output) zero_f
    → x ≡ block_of s frames mask table input zeros work → x ≡ block_of s frames mask table input (replicate (length output) zero_f) work
run_zeros s frames mask table input output zeros work x e h = h ∙ ap (λ (z : List Float). block_of s frames mask table input z work) e
