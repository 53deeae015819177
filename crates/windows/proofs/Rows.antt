-- The table of the cutoff: which decimals the constants are. Assumes nothing.
use Rattle.std.proofs.Common.{◌≡◌, ℕ, ◌^◌, false, [], ◌∷◌, refl}
use lib.Ieee.{Float, binary64, round, of_bits}
use Rattle.windows.specs.Cutoff.{cutoff_rows}

-- the double nearest to m / 10 ^ d
abbrev decimal : ℕ → ℕ → Float
decimal m d = round binary64 false m (10 ^ d)

-- each constant is the double nearest to the decimal of src/windows.rs
pub constants_are :
    cutoff_rows ≡
    (decimal 6159598046201173 15 ∷ decimal 18926415097606878 15 ∷ decimal 6534247430458968 13 ∷ []) ∷
    (decimal 9506235102129398 15 ∷ decimal 7913120634953742 14 ∷ decimal 15022316160588925 13 ∷ []) ∷
    (decimal 8041443677716476 15 ∷ decimal 559506779343387 13 ∷ decimal 8980287985384213 13 ∷ []) ∷
    (decimal 13745202940783823 15 ∷ decimal 12173532586374934 14 ∷ decimal 5964163279612051 12 ∷ []) ∷
    (decimal 33481080887677166 16 ∷ decimal 10106519434875038 15 ∷ decimal 7896345249024414 14 ∷ []) ∷
    (decimal 538751148378734 14 ∷ decimal 2969451915489501 14 ∷ decimal 18482117462266237 14 ∷ []) ∷
    []
unfolding round of_bits
constants_are = refl
