-- Whole numbers with a sign, for `omega`, which reads natural numbers only: the pair (a, b) stands for a - b. Definitions only.
use Rattle.std.specs.Prelude.{Bool, true, false, ◌≡◌, ℕ, ◌+◌, ◌*◌, ◌≤◌, ◌<◌}

abbrev pub Whole : Type 0
Whole = ℕ × ℕ

-- a with the sign s, negative where s is true
abbrev pub signed : Bool → ℕ → Whole
signed false a = (a, 0)
signed true a = (0, a)

infixl 6 ◌⊕◌
abbrev pub ◌⊕◌ : Whole → Whole → Whole
v ⊕ w = (v.0 + w.0, v.1 + w.1)

infixl 6 ◌⊖◌
abbrev pub ◌⊖◌ : Whole → Whole → Whole
v ⊖ w = (v.0 + w.1, v.1 + w.0)

infixl 7 ◌⊙◌
abbrev pub ◌⊙◌ : ℕ → Whole → Whole
n ⊙ v = (n * v.0, n * v.1)

infixl 7 ◌⊗◌
abbrev pub ◌⊗◌ : Whole → Whole → Whole
v ⊗ w = (v.0 * w.0 + v.1 * w.1, v.0 * w.1 + v.1 * w.0)

-- v = w, v < w and v ≤ w
abbrev pub Same : Whole → Whole → Type 0
Same v w = v.0 + w.1 ≡ w.0 + v.1

abbrev pub Less : Whole → Whole → Type 0
Less v w = v.0 + w.1 < w.0 + v.1

abbrev pub AtMost : Whole → Whole → Type 0
AtMost v w = v.0 + w.1 ≤ w.0 + v.1

-- |v| < b
abbrev pub Below : ℕ → Whole → Type 0
Below b v = (v.0 < v.1 + b) × (v.1 < v.0 + b)

-- |v - w| ≤ e
abbrev pub Within : ℕ → Whole → Whole → Type 0
Within e v w = (v.0 + w.1 ≤ w.0 + v.1 + e) × (w.0 + v.1 ≤ v.0 + w.1 + e)

-- |v| + e < b
abbrev pub Room : ℕ → ℕ → Whole → Type 0
Room b e v = (v.0 + e < v.1 + b) × (v.1 + e < v.0 + b)
