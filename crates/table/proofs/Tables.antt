-- How many entries a table has, and what the answer of the call that builds it says of the area. Assumes nothing.
use mathlib.Core.Bool.{Bool, true, false, true≢false, ◌&&◌}
use mathlib.Core.List.{List, []}
use mathlib.Core.Path.{◌≡◌, refl, sym, ap, ◌∙◌}
use Prim.Native.Nat.{ℕ, ◌*◌, ◌/◌, ◌≤◌, ◌<◌}
use native.Mathlib.Nat.{mul-zero, div-lt_iff_lt-mul}
use borrow.Author.Tests.{eq-eqb, le-leb, lt-leb}
use lib.Dec.{eqb}
use lib.Ieee.{Float}
use lib.ListN.{length}
use Rattle.error.specs.Refusals.{Said, given, refused, unless, number_of, values_of}
use Rattle.error.specs.declared.Refusal.{Refusal}
use Rattle.error.proofs.Ladder.{both}
use Rattle.windows.specs.declared.WindowFunction.{WindowFunction}
use Rattle.window_points.specs.Filled.{Filled, filled_or, built_left}
use Rattle.std.specs.Prelude.{Result, Ok, Err}
use Rattle.sincs.specs.Table.{sincs_table, product_holds, cutoff_holds, sincs_said, sincs_of}
use Rattle.sincs.proofs.Bounds.{product, product_most}
use Rattle.table.specs.Entries.{entries_of}

-- ---- the number of entries, by the tests that the code makes
module _ (p f : ℕ) where
  pub entries_none : f ≡ 0 → 0 ≡ entries_of p f
  entries_none e = rw (e, mul-zero p)

  pub entries_large : 0 < f → 65536 / f < p → 0 ≡ entries_of p f
  entries_large F h = rw (lt-leb (p * f) 65536 ((div-lt_iff_lt-mul {k = f} {x = 65536} {y = p} F).0 h))

  pub entries_all : 0 < f → p ≤ 65536 / f → p * f ≡ entries_of p f
  entries_all F h = rw (le-leb (p * f) 65536 (product_most p f F h))

-- ---- the answer
module _ (p f : ℕ) (c : Float) (w : WindowFunction) (old area : List Float) where
  -- done: the area is the table
  pub done_is : (r : Result Unit Refusal) → r ≡ (Ok tt) → built_left r area ≡ sincs_of p f c w old → area ≡ sincs_table p f c w
  done_is r k e = go (sincs_said p f c (length old)) (sym (ap (λ (x : Result Unit Refusal). built_left x area) k) ∙ e)
    where
      go : (s : Said Unit) → built_left (Ok tt) area ≡ filled_or old (sincs_table p f c w) s → area ≡ sincs_table p f c w
      go (given u) h = ap (λ (x : Filled). x.area) h
      go (refused n vs) h =
          let z : given tt ≡ refused n vs = ap (λ (x : Filled). x.said) h in
          cc

  -- refused: in an area of just the table's length by no test but the first
  eleven : (b q : Bool) (n : ℕ) (vs : List Float) → record { said = refused n vs; area = area } ≡ filled_or old (sincs_table p f c w) (unless b 11 [] (unless q 8 [] (given tt))) → (b ≡ true → q ≡ true) → n ≡ 11
  unfolding unless
  eleven false q n vs h i =
      let z : refused n vs ≡ refused 11 [] = ap (λ (x : Filled). x.said) h in
      cc
  eleven true false n vs h i = absurd (true≢false (sym (i refl)))
  eleven true true n vs h i =
      let z : refused n vs ≡ given tt = ap (λ (x : Filled). x.said) h in
      cc

  pub refused_is : (r : Result Unit Refusal) (e : Refusal) → r ≡ Err e → built_left r area ≡ sincs_of p f c w old → length old ≡ entries_of p f → number_of e ≡ 11
  refused_is r e k h l = eleven (product_holds p f && cutoff_holds c) (eqb (length old) (p * f)) (number_of e) (values_of e) (sym (ap (λ (x : Result Unit Refusal). built_left x area) k) ∙ h) long
    where
      long : (product_holds p f && cutoff_holds c) ≡ true → eqb (length old) (p * f) ≡ true
      long t =
          let m = product p f (both (product_holds p f) (cutoff_holds c) t).0 in
          eq-eqb (length old) (p * f) (rw (le-leb (p * f) 65536 m.most) at l)
