-- What the writer says in document 02's numbers settles its answer. Assumes nothing.
use mathlib.Core.Bool.{cond}
use mathlib.Core.Path.{◌≡◌, refl, sym, ◌∙◌}
use Prim.Native.Nat.{ℕ}
use Rattle.std.specs.Prelude.{Result, Ok, Err}
use lib.Dec.{eqb}
use Rattle.error.specs.Refusals.{Said, given, refused}
use Rattle.error.proofs.Settled.{settled}
use Rattle.log_writer.specs.declared.Refused.TheVariants.{UnknownKind, PayloadTooLong, NoRoom}
use Rattle.log_writer.specs.declared.Refused.{Refused}
use Rattle.log_writer.specs.Writer.{said_put}

put_of : Said ℕ → Result ℕ Refused
put_of (given n) = Ok n
put_of (refused n vs) = Err (cond (eqb n 11) UnknownKind (cond (eqb n 21) PayloadTooLong NoRoom))

put_back : (a : Result ℕ Refused) → put_of (said_put a) ≡ a
unfolding put_of
put_back (Ok n) = refl
put_back (Err UnknownKind) = refl
put_back (Err PayloadTooLong) = refl
put_back (Err NoRoom) = refl

-- two answers that one promise allows are equal
pub puts : (defined : Said ℕ) (a b : Result ℕ Refused) → said_put a ≡ defined → said_put b ≡ defined → a ≡ b
puts defined a b p q = settled said_put put_of put_back a b (p ∙ sym q)
