-- What the system's record of a file tells. Definitions only.
use Rattle.std.specs.Prelude.{ℕ, ℤ, pos, negsuc, Option, Some, None, Result, Ok, Err, eqb, cond}
use Rattle.std.specs.Int.Bits.{bit_and}
use Rattle.system.specs.declared.record.Record.{Record}
use Rattle.file_facts.specs.declared.Kind.{Kind}
use Rattle.file_facts.specs.declared.Kind.TheVariants.{CharacterDevice, BlockDevice, Regular, Other}
use Rattle.file_facts.specs.declared.Facts.{Facts}

-- a number, or 0 for a negative one
unfoldable pub at_least_zero : ℤ → ℕ
at_least_zero (pos n) = n
at_least_zero (negsuc n) = 0

-- nothing is known
abbrev pub unknown : Option Facts
unknown = None

-- the kind that these bits of a mode say: a character device (0o020000), a block device (0o060000), a regular
-- file (0o100000)
abbrev pub kind_of : ℕ → Kind
kind_of bits = cond (eqb bits 8192) CharacterDevice (cond (eqb bits 24576) BlockDevice (cond (eqb bits 32768) Regular Other))

-- where the call succeeded, what the record tells, and of its mode the bits of the kind (0o170000)
abbrev pub told : {E : Type 0} → Result Record E → Option Facts
told (Ok s) = Some (record { device = s.device; inode = s.inode; kind = kind_of (bit_and s.mode 61440); size = at_least_zero s.size })
told (Err e) = unknown
