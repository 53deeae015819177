-- Windows by their names, which are lists of ASCII bytes. Definitions only.
use Rattle.std.specs.Prelude.{Bool, true, List, [], ◌∷◌, ◌⊎◌, ◌≡◌, ℕ, Option, Some, None}
use Rattle.windows.specs.declared.WindowFunction.{WindowFunction}
use Rattle.windows.specs.declared.WindowFunction.TheVariants.{Blackman, Blackman2, BlackmanHarris, BlackmanHarris2, Hann, Hann2}

-- `hann`, `blackman`, `blackman-harris`, and with a `2` behind it for the square
abbrev pub long_name : WindowFunction → List ℕ
long_name Hann = 104 ∷ 97 ∷ 110 ∷ 110 ∷ []
long_name Hann2 = 104 ∷ 97 ∷ 110 ∷ 110 ∷ 50 ∷ []
long_name Blackman = 98 ∷ 108 ∷ 97 ∷ 99 ∷ 107 ∷ 109 ∷ 97 ∷ 110 ∷ []
long_name Blackman2 = 98 ∷ 108 ∷ 97 ∷ 99 ∷ 107 ∷ 109 ∷ 97 ∷ 110 ∷ 50 ∷ []
long_name BlackmanHarris = 98 ∷ 108 ∷ 97 ∷ 99 ∷ 107 ∷ 109 ∷ 97 ∷ 110 ∷ 45 ∷ 104 ∷ 97 ∷ 114 ∷ 114 ∷ 105 ∷ 115 ∷ []
long_name BlackmanHarris2 = 98 ∷ 108 ∷ 97 ∷ 99 ∷ 107 ∷ 109 ∷ 97 ∷ 110 ∷ 45 ∷ 104 ∷ 97 ∷ 114 ∷ 114 ∷ 105 ∷ 115 ∷ 50 ∷ []

-- `h`, `b`, `bh`, and the same with a `2`
abbrev pub short_name : WindowFunction → List ℕ
short_name Hann = 104 ∷ []
short_name Hann2 = 104 ∷ 50 ∷ []
short_name Blackman = 98 ∷ []
short_name Blackman2 = 98 ∷ 50 ∷ []
short_name BlackmanHarris = 98 ∷ 104 ∷ []
short_name BlackmanHarris2 = 98 ∷ 104 ∷ 50 ∷ []

-- a word is one of a window's two names
abbrev pub IsName : List ℕ → WindowFunction → Type 0
IsName word w = (word ≡ long_name w) ⊎ (word ≡ short_name w)

-- the window that a word names; a word that is bad names none
abbrev pub Names : List ℕ → Option WindowFunction → Type 0
Names word (Some w) = IsName word w
Names word None = (w : WindowFunction) → IsName word w → ⊥

-- a test says whether a fact holds
abbrev pub Tells : Bool → Type 0 → Type 0
Tells r fact = (r ≡ true → fact) × (fact → r ≡ true)
