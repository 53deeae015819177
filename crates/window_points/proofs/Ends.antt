-- How a call that fills a lent area ends: refused 11, refused 8 for its length, or filled. For this crate and `sincs`. Assumes nothing.
use Rattle.std.proofs.Common.{◌≡◌, ℕ, Bool, true, false, eqb, List, [], length, refl, ap, ◌∙◌, eq-eqb, ne_eqb}
use lib.Ieee.{Float}
use Rattle.error.specs.Refusals.{Said, given, refused, unless}
use Rattle.error.specs.declared.Refusal.TheVariants.{Argument, BufferShape}
use Rattle.error.proofs.Ladder.{pass, stop}
use Rattle.window_points.specs.Filled.{filled_or, built_left}
use Rattle.std.specs.Prelude.{Ok, Err}

module _ (b : Bool) (n : ℕ) (old new : List Float) where
  abbrev said : Said Unit
  said = unless b 11 [] (unless (eqb (length old) n) 8 [] (given tt))

  pub ends_argument : b ≡ false → built_left (Err Argument) old ≡ filled_or old new said
  ends_argument h = ap (filled_or old new) (stop b 11 [] (unless (eqb (length old) n) 8 [] (given tt)) h)

  pub ends_shape : b ≡ true → (length old ≡ n → ⊥) → built_left (Err BufferShape) old ≡ filled_or old new said
  ends_shape h l =
      ap (filled_or old new)
      (pass b 11 [] (unless (eqb (length old) n) 8 [] (given tt)) (refused 8 []) h (stop (eqb (length old) n) 8 [] (given tt) (ne_eqb (length old) n l)))

  pub ends_done : (area : List Float) → b ≡ true → length old ≡ n → area ≡ new → built_left (Ok tt) area ≡ filled_or old new said
  ends_done area h l e =
      ap (built_left (Ok tt)) e
      ∙ ap (filled_or old new)
      (pass b 11 [] (unless (eqb (length old) n) 8 [] (given tt)) (given tt) h (pass (eqb (length old) n) 8 [] (given tt) (given tt) (eq-eqb (length old) n l) refl))
