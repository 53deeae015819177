-- What is done where a channel is switched on. Assumes nothing.
use mathlib.Core.Path.{◌≡◌, refl}
use mathlib.Core.Bool.{Bool, true, false}
use mathlib.Core.List.{List}
use Prim.Native.Nat.{ℕ}
use lib.ListN.{length}
use Rattle.channel.specs.Mask.{where_on}

pub where_on_lem : {A : Type 0} (on : Bool) (new old : A) → on ≡ true → where_on on new old ≡ new
where_on_lem on new old e = rw e

pub where_off : {A : Type 0} (on : Bool) (new old : A) → on ≡ false → where_on on new old ≡ old
where_off on new old e = rw e

-- a test that changes nothing
pub where_same : {A : Type 0} (on : Bool) (new old : A) → new ≡ old → where_on on new old ≡ old
where_same true new old e = e
where_same false new old e = refl

pub where_long : {A : Type 0} (on : Bool) (new old : List A) (n : ℕ) → length new ≡ n → length old ≡ n → length (where_on on new old) ≡ n
where_long true new old n e f = e
where_long false new old n e f = f
