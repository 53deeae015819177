-- What is said in document 01's words settles the answer. Assumes nothing.
use Rattle.std.proofs.Common.{◌≡◌, List, get_or, pos, refl, ap, Result, Ok, Err}
use Rattle.error.specs.declared.Refusal.{Refusal}
use Rattle.error.specs.Refusals.{Said, given, refused}
use Rattle.error.proofs.Settled.{refusal_of, refusal_back, settled}
use Rattle.interpolation.specs.Grid.{said_time}
use Rattle.interpolation.specs.declared.Point.{Point}

-- an answer read off what is said
one_of : Said (List Point) → Result Point Refusal
one_of (given ps) = Ok (get_or ps 0 (record { index = pos 0; subindex = 0 }))
one_of (refused n vs) = Err (refusal_of n vs)

one_back : (a : Result Point Refusal) → one_of (said_time a) ≡ a
unfolding one_of
one_back (Ok p) = refl
one_back (Err r) = ap Err (refusal_back r)

pub time_settled : (a b : Result Point Refusal) → said_time a ≡ said_time b → a ≡ b
time_settled = settled said_time one_of one_back
