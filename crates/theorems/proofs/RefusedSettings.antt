-- Document 01, "Refusal numbers": "A refusal carries its number and the floats shown. State and every lent area keep their bits." For the settings, by `end_refused`, which is their end. Assumes nothing.
use mathlib.Core.Bool.{Bool, ◌&&◌}
use mathlib.Core.List.{List}
use mathlib.Core.Path.{◌≡◌}
use Prim.Native.Nat.{ℕ}
use lib.Ieee.{Float}
use Rattle.exact.specs.Doubles.{◌*f◌, ◌/f◌, above_zero}
use Rattle.error.specs.Refusals.{refused}
use Rattle.state.specs.declared.State.{State}
use Rattle.asynchro.specs.Calls.{relative_holds, applied, set_ratio, set_relative, chunked, set_chunk}
use Rattle.theorems.proofs.Refused.{end_refused}

module _ (s : State) (n : ℕ) (vs : List Float) where
  pub ratio_refused : (r : Float) (ramp : Bool) → (set_ratio s r ramp).said ≡ refused n vs → (set_ratio s r ramp).state ≡ s
  ratio_refused r ramp e = end_refused s n vs (applied s (relative_holds s.m (r /f s.original)) r ramp) e

  pub relative_refused : (rel : Float) (ramp : Bool) → (set_relative s rel ramp).said ≡ refused n vs → (set_relative s rel ramp).state ≡ s
  relative_refused rel ramp e = end_refused s n vs (applied s (above_zero (s.original *f rel) && relative_holds s.m rel) (s.original *f rel) ramp) e

  pub chunk_refused : (chunk : ℕ) → (set_chunk s chunk).said ≡ refused n vs → (set_chunk s chunk).state ≡ s
  chunk_refused chunk e = end_refused s n vs (chunked s chunk) e
