-- Within the inner span every sample is there, for each kind: one law over L. Assumes nothing.
use mathlib.Core.Bool.{Bool, true}
use mathlib.Core.Path.{◌≡◌, sym, ap, ◌∙◌}
use Prim.Native.Nat.{ℕ, ◌+◌, ◌-◌, ◌*◌, ◌≤◌}
use native.Mathlib.Omega.{arith}
use lib.Dec.{T}
use lib.Ieee.{Float, binary64, fits}
use Rattle.kinds.specs.declared.Kind.{Kind}
use Rattle.kinds.specs.declared.Kind.TheVariants.{Polynomial, Sinc}
use Rattle.kinds.specs.Kinds.{kind_holds}
use Rattle.kinds.proofs.Laws.{sized}
use Rattle.grid_places.proofs.Inner.{inner_held}
use Rattle.path.specs.declared.Span.{Span}
use Rattle.path.specs.Places.{shift_of, last_of}
use Rattle.path.specs.Sites.{site_of, reached, all_reach}
use Rattle.path.specs.Turns.{inner_span, is_within, all_along}
use Rattle.path.proofs.Places.{shift_small, last_small}
use Rattle.path.proofs.Bounds.{place_bounds}
use Rattle.path.proofs.Path.{along_weaker, reach_along}
use Rattle.path.proofs.Spans.{span_is}

inner_reached : (k : Kind) (needed : ℕ) (x : Float) → kind_holds k ≡ true → needed ≤ 65536 → T (fits binary64 x) → is_within (inner_span k needed) x ≡ true → reached (site_of k needed x) ≡ true
inner_reached (Polynomial degree) needed x h l t e = sym (span_is (shift_of degree) (last_of degree needed) (shift_small degree) (last_small degree needed l) x t) ∙ e
inner_reached (Sinc points factor blend) needed x h l t e =
    let z = sized points factor h in
    let low : 8 ≤ points = z.points_least in
    let high : points ≤ 256 = z.points_most in
    let p = place_bounds (2 * points - 1) (points + needed - 2) x t (sym (span_is (2 * points - 1) (points + needed - 2) (omega arith) (omega arith) x t) ∙ e) in
    inner_held blend factor (2 * points) (points + needed) x z.factor_least z.factor_most (omega arith) (omega arith) (omega arith) (omega arith) p.number p.at_least p.below

-- so where every index of a path lies within it, every frame is in reach
pub inner_all : (k : Kind) (needed : ℕ) (t d i : Float) (n : ℕ) → kind_holds k ≡ true → needed ≤ 65536 → (span : Span) (b : Bool) → span ≡ inner_span k needed → b ≡ all_along (is_within span) t d i n → b ≡ true
    → b ≡ all_reach k needed t d i n
inner_all k needed t d i n h l span b s w e =
    let a : all_along (is_within (inner_span k needed)) t d i n ≡ true = sym (w ∙ ap (λ (z : Span). all_along (is_within z) t d i n) s) ∙ e in
    e ∙ sym (sym (reach_along k needed t d i n) ∙ along_weaker (is_within (inner_span k needed)) t d i (λ x. reached (site_of k needed x)) (λ x f c. inner_reached k needed x h l f c) n a)
