-- What an accepted call leaves passes the StateRecord test. Assumes nothing.
use mathlib.Core.Bool.{Bool, true, false, cond, ◌&&◌}
use mathlib.Core.Path.{◌≡◌, refl}
use Prim.Native.Nat.{ℕ}
use borrow.Author.Tests.{leb-true, le-leb}
use lib.Dec.{leb}
use lib.Ieee.{Float}
use Rattle.exact.specs.Doubles.{above_zero, ◌*f◌, ◌/f◌}
use Rattle.error.specs.Refusals.{Said, given, refused}
use Rattle.error.proofs.Ladder.{both, join, accepted}
use Rattle.state.specs.declared.State.{State}
use Rattle.sizes.specs.Bounds.{is_ratio, is_channels}
use Rattle.steps.specs.Steps.{step_of, is_step}
use Rattle.state.specs.Record.{is_state}
use Rattle.asynchro.specs.Calls.{end_of, relative_holds, with_ratio, applied, set_ratio, set_relative, with_chunk, chunked, set_chunk}
use Rattle.steps.proofs.Steps.{fresh_step}
use Rattle.state.proofs.Keeps.{update_keeps, counts_join}
use Rattle.state.proofs.Valid.{Ready, tests, valid}
use Rattle.state.proofs.Checked.{check_accepted}

-- a call that ends so keeps the test: on a refusal the record is the one given
pub end_keeps : (s : State) (d : Said State) → is_state s ≡ true → ((t : State) → d ≡ given t → is_state t ≡ true) → is_state (end_of s d).state ≡ true
end_keeps s (given t) h k = k t refl
end_keeps s (refused n vs) h k = h

-- ---- settings
ratio_ready : (s : State) (r : Float) (ramp : Bool) → is_state s ≡ true → is_ratio r ≡ true → Ready (with_ratio s r ramp)
ratio_ready s r ramp h k =
    let v = valid s h in
    let t = (tests s h).0 in
    let u = both (is_step s.now s.current) (is_step s.then s.target) t.steps in
    record {
      kind = t.kind;
      counts = t.counts;
      ratios = join (join (join v.original_ratio (go ramp v.current_ratio)) k) v.m_holds;
      steps = join (step ramp u.0) (fresh_step r k);
      maxima = t.maxima;
      fill = t.fill;
      index = t.index;
    }
  where
    go : (b : Bool) → is_ratio s.current ≡ true → is_ratio (cond b s.current r) ≡ true
    go true c = c
    go false c = k

    step : (b : Bool) → is_step s.now s.current ≡ true → is_step (cond b s.now (step_of r)) (cond b s.current r) ≡ true
    step true c = c
    step false c = fresh_step r k

applied_keeps : (s t : State) (ok : Bool) (r : Float) (ramp : Bool) → applied s ok r ramp ≡ given t → is_state t ≡ true
applied_keeps s t ok r ramp e =
    let a = check_accepted s _ t e in
    let b = accepted ok _ _ _ t a.1 in
    let c = accepted (is_ratio r) _ _ _ t b.1 in
    update_keeps (with_ratio s r ramp) t (ratio_ready s r ramp a.0 c.0) c.1

pub ratio_keeps : (s : State) (r : Float) (ramp : Bool) → is_state s ≡ true → is_state (set_ratio s r ramp).state ≡ true
ratio_keeps s r ramp h = end_keeps s (applied s (relative_holds s.m (r /f s.original)) r ramp) h (λ t e. applied_keeps s t _ r ramp e)

pub relative_keeps : (s : State) (rel : Float) (ramp : Bool) → is_state s ≡ true → is_state (set_relative s rel ramp).state ≡ true
relative_keeps s rel ramp h =
    end_keeps s (applied s (above_zero (s.original *f rel) && relative_holds s.m rel) (s.original *f rel) ramp) h
    (λ t e. applied_keeps s t _ (s.original *f rel) ramp e)

chunk_ready : (s : State) (n : ℕ) → is_state s ≡ true → (leb 1 n && leb n s.chunk0) ≡ true → Ready (with_chunk s n)
chunk_ready s n h k =
    let v = valid s h in
    let t = (tests s h).0 in
    let d = both (leb 1 n) (leb n s.chunk0) k in
    let channels : is_channels s.channels ≡ true = join (le-leb 1 s.channels v.channels_some) (le-leb s.channels 16 v.channels_few) in
    record { kind = t.kind; counts = counts_join (with_chunk s n) channels (leb-true 1 n d.0) (leb-true n s.chunk0 d.1) v.chunk0_few; ratios = t.ratios; steps = t.steps; maxima = t.maxima; fill = t.fill; index = t.index }

pub chunk_keeps : (s : State) (n : ℕ) → is_state s ≡ true → is_state (set_chunk s n).state ≡ true
chunk_keeps s n h = end_keeps s (chunked s n) h (λ t e.
    let a = check_accepted s _ t e in
    let b = accepted (leb 1 n && leb n s.chunk0) _ _ _ t a.1 in
    update_keeps (with_chunk s n) t (chunk_ready s n h b.0) b.1)
