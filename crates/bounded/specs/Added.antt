-- A text with room for so many bytes. Definitions only.
use Rattle.std.specs.Prelude.{cond, List, ◌++◌, ℕ, ◌+◌, Bool, leb, length}

-- whether the text t of at most n bytes has room for w
abbrev pub has_room : ℕ → List ℕ → List ℕ → Bool
has_room n t w = leb (length t + length w) n

-- the text with w behind it, or as it was where w has no room
abbrev pub added : ℕ → List ℕ → List ℕ → List ℕ
added n t w = cond (has_room n t w) (t ++ w) t
