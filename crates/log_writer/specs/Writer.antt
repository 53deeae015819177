-- Document 02, R-12: what the writer says, and the lent bytes then. Definitions only.
use Rattle.std.specs.Prelude.{List, [], ◌++◌, ℕ, ◌+◌, leb, length, drop, Result, Ok, Err}
use Rattle.error.specs.Refusals.{Said, given, refused, unless}
use Rattle.log_records.specs.Records.{is_kind, record_of}
use Rattle.log_writer.specs.declared.Refused.{Refused}
use Rattle.log_writer.specs.declared.Refused.TheVariants.{UnknownKind, PayloadTooLong, NoRoom}

-- "Refusals: 11 unknown kind, 21 payload too long, 22 no room"
abbrev pub number_of : Refused → ℕ
number_of UnknownKind = 11
number_of PayloadTooLong = 21
number_of NoRoom = 22

abbrev pub said_put : Result ℕ Refused → Said ℕ
said_put (Ok n) = given n
said_put (Err r) = refused (number_of r) []

-- in that order; else the bytes that the record has
unfoldable pub put_said : ℕ → List ℕ → ℕ → Said ℕ
put_said kind payload room =
    unless (is_kind kind) 11 []
    (unless (leb (length payload) 64) 21 []
    (unless (leb (7 + length payload) room) 22 []
    (given (7 + length payload))))

-- the lent bytes then: the record at their front, and on a refusal what they were
unfoldable pub placed : Said ℕ → List ℕ → List ℕ → List ℕ
placed (given n) bytes out = bytes ++ drop n out
placed (refused n vs) bytes out = out

abbrev pub put_area : ℕ → List ℕ → List ℕ → List ℕ
put_area kind payload out = placed (put_said kind payload (length out)) (record_of kind payload) out
