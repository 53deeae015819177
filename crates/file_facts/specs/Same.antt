-- When two facts are of one file, when they are of a regular one, and how large that is. Definitions only.
use Rattle.std.specs.Prelude.{Bool, true, false, ℕ, cond, ◌&&◌, not, eqb, Option, Some, None}
use Rattle.file_facts.specs.declared.Kind.{Kind}
use Rattle.file_facts.specs.declared.Kind.TheVariants.{CharacterDevice, BlockDevice, Regular, Other}
use Rattle.file_facts.specs.declared.Facts.{Facts}

-- a terminal, /dev/null and their like, which may serve twice
abbrev pub may_serve_twice : Kind → Bool
may_serve_twice CharacterDevice = true
may_serve_twice BlockDevice = false
may_serve_twice Regular = false
may_serve_twice Other = false

-- a file that keeps what is written
abbrev pub keeps : Kind → Bool
keeps CharacterDevice = false
keeps BlockDevice = true
keeps Regular = true
keeps Other = false

abbrev pub is_regular_kind : Kind → Bool
is_regular_kind CharacterDevice = false
is_regular_kind BlockDevice = false
is_regular_kind Regular = true
is_regular_kind Other = false

-- both are known, with one device and inode, and it is no character device, which may serve twice
abbrev pub one_file : Option Facts → Option Facts → Bool
one_file (Some a) (Some b) = eqb a.device b.device && eqb a.inode b.inode && not (may_serve_twice a.kind)
one_file (Some a) None = false
one_file None b = false

-- one file that keeps what is written: a regular one, or a block device
abbrev pub same_kept : Option Facts → Option Facts → Bool
same_kept (Some a) b = one_file (Some a) b && keeps a.kind
same_kept None b = false

-- known, and a regular file
abbrev pub regular : Option Facts → Bool
regular (Some a) = is_regular_kind a.kind
regular None = false

-- the size of a regular file, else 0
abbrev pub size_of : Option Facts → ℕ
size_of (Some a) = cond (is_regular_kind a.kind) a.size 0
size_of None = 0
