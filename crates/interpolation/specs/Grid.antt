-- Document 01, "Grid points". Definitions only.
use Rattle.std.specs.Prelude.{◌≡◌, ℕ, ◌-◌, ◌/◌, ◌%◌, ◌<◌, Bool, ◌&&◌, List, [], ◌∷◌, map, ℤ, pos, negsuc, ◌+ℤ◌, ◌*ℤ◌, nat_le, Float, Result, Ok, Err}
use Rattle.std.specs.Float.Ieee.{to_signed, to_unsigned}
use Rattle.exact.specs.Doubles.{◌*f◌, count}
use Rattle.error.specs.declared.Refusal.{Refusal}
use Rattle.error.specs.Refusals.{number_of, values_of, Said, given, refused, unless}
use Rattle.whole.specs.Rounded.{floor_of, round_of, split_of}
use Rattle.whole.specs.Small.{small}
use Rattle.interpolation.specs.declared.Point.{Point}

-- "|t| below 2^52", "factor 1 to 2^20 (3 to 2^20 for three and four points)"
abbrev pub in_range : ℕ → Float → ℕ → Bool
in_range least t factor = small t && nat_le least factor && nat_le factor 1048576

-- the point p is number q of the grid: "index*factor+subindex = q", and "every subindex lies in 0..factor-1"
pub record Numbered (factor : ℕ) (q : ℤ) (p : Point) : Type 0 where
  pub equation : p.index *ℤ pos factor +ℤ pos p.subindex ≡ q
  pub inside : p.subindex < factor

-- that point: q divided by the factor, rounded down, and what is left over
unfoldable pub point_of : ℕ → ℤ → Point
point_of factor (pos n) = record { index = pos (n / factor); subindex = n % factor }
point_of factor (negsuc n) = record { index = negsuc (n / factor); subindex = factor - 1 - n % factor }

-- "q = floor(t)*factor + floor((t-floor(t))*factor), the inner product in f64". `how` is the inner floor; for one point it is round half away from zero.
-- floor(t) and t-floor(t) come from the split of t; in range the casts to whole numbers cut nothing (proofs/Starts.antt)
abbrev pub q_of : (Float → Float) → Float → ℕ → ℤ
q_of how t factor = to_signed 63 (split_of t).floor *ℤ pos factor +ℤ pos (to_unsigned 64 (how ((split_of t).frac *f count factor)))

-- the points q + o, for each of the offsets, or refusal 11
unfoldable pub grid_said : ℕ → (Float → Float) → List ℤ → Float → ℕ → Said (List Point)
grid_said least how offsets t factor =
    unless (in_range least t factor) 11 [] (given (map (λ o. point_of factor (q_of how t factor +ℤ o)) offsets))

-- "Four points give index*factor+subindex = q-1, q, q+1, q+2; three give q, q+1, q+2; two give q, q+1; one uses round half away from zero"
abbrev pub nearest1 : Float → ℕ → Said (List Point)
nearest1 = grid_said 1 round_of (pos 0 ∷ [])

abbrev pub nearest2 : Float → ℕ → Said (List Point)
nearest2 = grid_said 1 floor_of (pos 0 ∷ pos 1 ∷ [])

abbrev pub nearest3 : Float → ℕ → Said (List Point)
nearest3 = grid_said 3 floor_of (pos 0 ∷ pos 1 ∷ pos 2 ∷ [])

abbrev pub nearest4 : Float → ℕ → Said (List Point)
nearest4 = grid_said 3 floor_of (negsuc 0 ∷ pos 0 ∷ pos 1 ∷ pos 2 ∷ [])

-- ---- the answers in document 01's words
-- two, three and four points by `said_result`; one point as a list of one
abbrev pub said_time : Result Point Refusal → Said (List Point)
said_time (Ok p) = given (p ∷ [])
said_time (Err r) = refused (number_of r) (values_of r)
