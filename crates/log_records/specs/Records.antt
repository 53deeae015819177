-- Document 02, R-12: a record of the pass log, and where one stands. Definitions only.
use Rattle.std.specs.Prelude.{Bool, cond, ◌&&◌, List, [], ◌∷◌, ◌++◌, ℕ, ◌+◌, ◌*◌, ◌/◌, ◌%◌, eqb, leb, length, get_or, take, drop, Option, Some, None}
use Rattle.log_records.specs.declared.Record.{Record}

-- "a two-byte ..; numbers little-endian"
abbrev pub two_of : ℕ → List ℕ
two_of n = n % 256 ∷ n / 256 % 256 ∷ []

abbrev pub two_at : List ℕ → ℕ → ℕ
two_at bs at = get_or bs at 0 + 256 * get_or bs (at + 1) 0

-- "a kind byte (1 construction, 2 setting, 3 block, 4 reset)"
abbrev pub is_kind : ℕ → Bool
is_kind kind = leb 1 kind && leb kind 4

unfoldable pub total : List ℕ → ℕ
total [] = 0
total (b ∷ bs) = b + total bs

-- "kind, length and payload bytes"
abbrev pub body_of : ℕ → List ℕ → List ℕ
body_of kind payload = kind ∷ two_of (length payload) ++ payload

-- "a two-byte sum of kind, length and payload bytes modulo 65,536"
abbrev pub sum_of : List ℕ → ℕ
sum_of body = total body % 65536

-- "each record is the mark bytes 0xD7 0x1A, a kind byte, a two-byte payload length, the payload, and a two-byte sum"
unfoldable pub record_of : ℕ → List ℕ → List ℕ
record_of kind payload = 0xD7 ∷ 0x1A ∷ body_of kind payload ++ two_of (sum_of (body_of kind payload))

-- ---- the reader, of the bytes from a place on

abbrev pub mark_agrees : List ℕ → Bool
mark_agrees bs = eqb (get_or bs 0 0) 0xD7 && eqb (get_or bs 1 0) 0x1A

abbrev pub kind_agrees : List ℕ → Bool
kind_agrees bs = is_kind (get_or bs 2 0)

-- at most 64, and the record lies whole in the log
abbrev pub length_agrees : List ℕ → Bool
length_agrees bs = leb (two_at bs 3) 64 && leb (7 + two_at bs 3) (length bs)

abbrev pub sum_agrees : List ℕ → Bool
sum_agrees bs = eqb (two_at bs (5 + two_at bs 3)) (sum_of (take (3 + two_at bs 3) (drop 2 bs)))

-- "each record whose mark, kind, length and sum agree"
unfoldable pub agrees : List ℕ → Bool
agrees bs = mark_agrees bs && (kind_agrees bs && (length_agrees bs && sum_agrees bs))

-- how many bytes the record has that stands first, 0 where none does
abbrev pub record_length : List ℕ → ℕ
record_length bs = cond (agrees bs) (7 + two_at bs 3) 0

-- the same of the record at the place `at`, if one stands there
unfoldable pub length_at : List ℕ → ℕ → Option ℕ
length_at log at = cond (agrees (drop at log)) (Some (7 + two_at (drop at log) 3)) None

-- the kind of the record at the place `at`, where its payload begins, the payload's length, and the place behind the record
abbrev pub record_at : List ℕ → ℕ → Record
record_at log at = record { kind = get_or log (at + 2) 0; from = at + 5; length = two_at log (at + 3); next = at + (7 + two_at log (at + 3)) }

unfoldable pub read_at : List ℕ → ℕ → Option Record
read_at log at = cond (agrees (drop at log)) (Some (record_at log at)) None
