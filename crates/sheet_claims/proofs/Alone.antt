-- A line alone: its positions are plain, so that a total of it alone is the line's own figures, and fits where they do. Assumes nothing.
use mathlib.Core.Bool.{Bool, true, false, ◌&&◌}
use mathlib.Core.Path.{◌≡◌, refl, ap, ◌∙◌, subst}
use Prim.Native.Nat.{ℕ, ◌+◌, ◌-◌, ◌*◌, ◌/◌}
use native.Mathlib.Nat.{zero-add, zero-div, sub-zero, zero-sub}
use native.Mathlib.Omega.{arith}
use lib.Ieee.{Float, nan, inf, fin}
use Rattle.exact.specs.Whole.{Whole, ◌⊕◌, signed}
use Rattle.exact.specs.Exact.{exact}
use Rattle.error.specs.Refusals.{Said, given, refused}
use Rattle.error.proofs.Ladder.{both, join}
use Rattle.state.specs.declared.State.{State}
use Rattle.state.specs.Record.{step_now_of}
use Rattle.plan.specs.Plan.{increment_of}
use Rattle.process.specs.declared.Sizes.{Sizes}
use Rattle.process.specs.Block.{block_of}
use Rattle.position.specs.History.{Call, ratio, relative, chunk, block}
use Rattle.positions.specs.Positions.{unit, one, plain, inside, is_multiple, position_of}
use Rattle.lines.specs.declared.End.TheVariants as end
use Rattle.lines.specs.Lines.{Figures, opened, move_of, grown, block_fits, figures_fit, on, check, started, with_block}
use Rattle.sheets.specs.Sheet.{nothing, plus, sums_fit}
use Rattle.sheet_claims.specs.Live.{grown_by, line_after}
use Rattle.sheet_claims.proofs.Rows.{check_on, same_on}

-- ---- plain positions
pair_is : (a b c d : ℕ) → a ≡ c → b ≡ d → ◌≡◌ {A = Whole} (a, b) (c, d)
pair_is a b c d e h = cc

plain_again : (v : Whole) → plain (plain v) ≡ plain v
plain_again v = pair_is _ _ _ _ (less v.0 v.1) (less v.1 v.0)
  where
    less : (a b : ℕ) → a - b - (b - a) ≡ a - b
    less a b = omega arith

plain_sides : (s : Bool) (m u : ℕ) → plain ((signed s m).0 / u, (signed s m).1 / u) ≡ ((signed s m).0 / u, (signed s m).1 / u)
plain_sides true m u = rw (zero-div u) (pair_is _ _ _ _ (zero-sub (m / u)) (sub-zero (m / u)))
plain_sides false m u = rw (zero-div u) (pair_is _ _ _ _ (sub-zero (m / u)) (zero-sub (m / u)))

position_plain : (x : Float) → plain (position_of x) ≡ position_of x
unfolding exact
position_plain nan = plain_sides false 0 unit
position_plain (inf s) = plain_sides false 0 unit
position_plain (fin s m e) = plain_sides s _ unit

-- ---- a line that goes on has plain positions, and fits
pub record Sound (f : Figures) : Type 0 where
  pub exactly : plain f.exactly ≡ f.exactly
  pub stored : plain f.stored ≡ f.stored
  pub fits : figures_fit f ≡ true

pub started_sound : (x : Float) (f : Figures) → started x ≡ on f → Sound f
started_sound x f e =
    let v = position_of x in
    let a = check_on (is_multiple x) end.Float (check (inside v) end.Range (on (opened v))) f e in
    let b = check_on (inside v) end.Range (on (opened v)) f a.1 in
    subst Sound (same_on (opened v) f b.1) (record { exactly = position_plain x; stored = position_plain x; fits = join b.0 (join b.0 refl) })

block_sound : (f g : Figures) (n c : ℕ) (t d i : Float) → with_block f n c t d i ≡ on g → Sound g
block_sound f g n c t d i e =
    let h = grown f n c t d i in
    let a = check_on (is_multiple t && (is_multiple d && is_multiple i)) end.Float (check (block_fits n t d i && figures_fit h) end.Range (on h)) g e in
    let b = check_on (block_fits n t d i && figures_fit h) end.Range (on h) g a.1 in
    subst Sound (same_on h g b.1)
    (record {
      exactly = plain_again (f.exactly ⊕ move_of n t d);
      stored = plain_again (((f.inputs + c) * one, 0) ⊕ position_of i);
      fits = (both (block_fits n t d i) (figures_fit h) b.0).1;
    })

grown_sound : (s : State) (f g : Figures) (said : Said Sizes) (index : Float) → Sound f → grown_by s (on f) said index ≡ on g → Sound g
grown_sound s f g (given z) index k e = block_sound f g z.output z.input (step_now_of s) (increment_of s) index e
grown_sound s f g (refused n vs) index k e = subst Sound (same_on f g e) k

pub call_sound : (s : State) (f g : Figures) (c : Call) → Sound f → line_after s (on f) c ≡ on g → Sound g
call_sound s f g (ratio r ramp) k e = subst Sound (same_on f g e) k
call_sound s f g (relative r ramp) k e = subst Sound (same_on f g e) k
call_sound s f g (chunk n) k e = subst Sound (same_on f g e) k
call_sound s f g (block frames mask table input output work) k e =
    grown_sound s f g (block_of s frames mask table input output work).said (block_of s frames mask table input output work).state.index k e

-- ---- the total of that line alone
alone : (v : Whole) → plain v ≡ v → plain ((0, 0) ⊕ v) ≡ v
alone v h = rw (zero-add v.0, zero-add v.1) h

pub alone_is : (f : Figures) → Sound f → plus nothing f ≡ record { frames = f.frames; blocks = f.blocks; exactly = f.exactly; stored = f.stored }
alone_is f k =
    ap (λ (n : ℕ). record { frames = n; blocks = 0 + f.blocks; exactly = plain ((0, 0) ⊕ f.exactly); stored = plain ((0, 0) ⊕ f.stored) }) (zero-add f.frames)
    ∙ ap (λ (n : ℕ). record { frames = f.frames; blocks = n; exactly = plain ((0, 0) ⊕ f.exactly); stored = plain ((0, 0) ⊕ f.stored) }) (zero-add f.blocks)
    ∙ ap (λ (v : Whole). record { frames = f.frames; blocks = f.blocks; exactly = v; stored = plain ((0, 0) ⊕ f.stored) }) (alone f.exactly k.exactly)
    ∙ ap (λ (v : Whole). record { frames = f.frames; blocks = f.blocks; exactly = f.exactly; stored = v }) (alone f.stored k.stored)

pub alone_fits : (f : Figures) → Sound f → sums_fit (plus nothing f) ≡ true
alone_fits f k = ap sums_fit (alone_is f k) ∙ k.fits
