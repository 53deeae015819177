-- The words of a line: "parted by one or more spaces or tabs"; a CR counts as one of these, so that a line may end by CR and LF. Definitions only.
use Rattle.std.specs.Prelude.{ℕ, suc, Bool, true, false, cond, not, ◌||◌, List, [], ◌∷◌, take, drop, ◌==◌}

-- a space, a tab, or the CR that may stand before the end of a line
abbrev pub is_blank : ℕ → Bool
is_blank b = b == 32 || b == 9 || b == 13

-- a blank byte where `blank` says so, and otherwise one that is none
abbrev pub is_kind : Bool → ℕ → Bool
is_kind blank b = cond blank (is_blank b) (not (is_blank b))

-- how many bytes of the kind a text begins with
unfoldable pub run_in : Bool → List ℕ → ℕ
run_in blank [] = 0
run_in blank (b ∷ w) = cond (is_kind blank b) (suc (run_in blank w)) 0

-- a text without the blanks that it begins with
unfoldable pub from_word : List ℕ → List ℕ
unfolding run_in
from_word w = drop (run_in true w) w

-- the word that a text begins with, and what stands behind it
unfoldable pub word_of : List ℕ → List ℕ
unfolding run_in
word_of w = take (run_in false w) w

unfoldable pub behind_word : List ℕ → List ℕ
unfolding run_in
behind_word w = drop (run_in false w) w
