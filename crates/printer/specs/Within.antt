-- What lending the first elements of a slice asks. Definitions only.
use Rattle.std.specs.Prelude.{List, ◌≡◌, ℕ, min, ◌≤◌, length, take}

-- r is the smaller of n and the length of xs. The first three parts follow from the last; they are stated so that a call with `&xs[..r]` needs no proof
abbrev pub Within : {A : Type 0} → ℕ → List A → ℕ → Type 0
Within n xs r = (r ≤ n) × (r ≤ length xs) × (r ≡ length (take r xs)) × (r ≡ min n (length xs))
