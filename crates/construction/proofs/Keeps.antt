-- What an accepted construction leaves passes the StateRecord test. Assumes nothing.
use Rattle.std.specs.Prelude.{is_some}
use mathlib.Core.Bool.{true}
use mathlib.Core.Path.{◌≡◌, refl, subst}
use Prim.Native.Nat.{ℕ, ◌≤◌}
use native.Mathlib.Nat.{le_refl}
use native.Mathlib.Omega.{arith}
use borrow.Author.Tests.{leb-true}
use lib.Dec.{leb}
use lib.Ieee.{Float}
use Rattle.exact.specs.Doubles.{above_zero, at_least_one}
use Rattle.error.specs.Refusals.{Said, given, refused}
use Rattle.error.proofs.Ladder.{both, join, accepted, same_given}
use Rattle.kinds.specs.declared.Kind.{Kind}
use Rattle.kinds.specs.Kinds.{points_of, kind_holds}
use Rattle.kinds.proofs.Laws.{points_few}
use Rattle.sizes.specs.declared.FixedAsync.{FixedAsync}
use Rattle.sizes.specs.declared.FixedAsync.TheVariants.{Input, Output}
use Rattle.state.specs.declared.State.{State}
use Rattle.sizes.specs.Bounds.{is_ratio, is_channels, is_size}
use Rattle.sizes.specs.Sizes.{max_input, max_output}
use Rattle.state.specs.Record.{max_input_of, max_output_of, maxima_hold, is_state, update_lengths}
use Rattle.construction.specs.Construction.{fresh_state, with_fill, filled, first_lengths, construct}
use Rattle.steps.proofs.Steps.{fresh_step}
use Rattle.sizes.proofs.Start.{start_inside}
use Rattle.sizes.proofs.Read.{counted, none_held}
use Rattle.state.proofs.Keeps.{update_keeps, counts_join}
use Rattle.state.proofs.Valid.{Ready, tests, passes}

-- one of the maxima is the chunk itself
chunk_few : (f : FixedAsync) (l c : ℕ) (r m : Float) → is_some (max_input f l c r m) ≡ true → is_some (max_output f c r m) ≡ true → c ≤ 65536
unfolding max_input max_output
chunk_few Input l c r m h k = counted (is_size c) c refl h
chunk_few Output l c r m h k = counted (is_size c) c refl k

fresh_ready : (r m : Float) (k : Kind) (c ch : ℕ) (f : FixedAsync) → kind_holds k ≡ true → at_least_one m ≡ true → leb 1 c ≡ true → is_ratio r ≡ true → is_channels ch ≡ true
    → maxima_hold (fresh_state r m k c ch f) ≡ true → Ready (fresh_state r m k c ch f)
fresh_ready r m k c ch f hk hm hc hr hch x =
    let s = fresh_state r m k c ch f in
    let y = both (is_some (max_input_of s)) (is_some (max_output_of s)) x in
    record {
      kind = hk;
      counts = counts_join s hch (leb-true 1 c hc) (le_refl c) (chunk_few f (points_of k) c r m y.0 y.1);
      ratios = join (join (join hr hr) hr) hm;
      steps = join (fresh_step r hr) (fresh_step r hr);
      maxima = x;
      fill = none_held (max_input_of s) y.0;
      index = start_inside (points_of k) (omega (arith, points_few k hk));
    }

-- the fill is the needed input, which the maximum holds
fill_keeps : (s : State) → is_state s ≡ true → is_state (with_fill s s.input) ≡ true
fill_keeps s h =
    let t = (tests s h).0 in
    let n = (tests s h).1 in
    passes (with_fill s s.input)
    (record { kind = t.kind; counts = t.counts; ratios = t.ratios; steps = t.steps; maxima = t.maxima; fill = n.input_most; index = t.index })
    (record { input = n.input; output = n.output; input_most = n.input_most })

filled_keeps : (d : Said State) (s : State) → ((t : State) → d ≡ given t → is_state t ≡ true) → filled d ≡ given s → is_state s ≡ true
filled_keeps (given t) s k e = subst (λ (y : State). is_state y ≡ true) (same_given (with_fill t t.input) s e) (fill_keeps t (k t refl))
filled_keeps (refused n vs) s k e = absurd (let z : ◌≡◌ {A = ℕ} 0 1 = cc in omega arith)

pub construct_keeps : (r m : Float) (k : Kind) (c ch : ℕ) (f : FixedAsync) (s : State) → construct r m k c ch f ≡ given s → is_state s ≡ true
unfolding construct first_lengths
construct_keeps r m k c ch f s e =
    let k11 = accepted (kind_holds k) _ _ _ s e in
    let k1 = accepted (above_zero r) _ _ _ s k11.1 in
    let k2 = accepted (at_least_one m) _ _ _ s k1.1 in
    let k3 = accepted (leb 1 c) _ _ _ s k2.1 in
    let k5 = accepted (is_ratio r) _ _ _ s k3.1 in
    let k7 = accepted (is_channels ch) _ _ _ s k5.1 in
    let k6 = accepted (maxima_hold (fresh_state r m k c ch f)) _ _ _ s k7.1 in
    filled_keeps (update_lengths (fresh_state r m k c ch f)) s
    (λ t g. update_keeps (fresh_state r m k c ch f) t (fresh_ready r m k c ch f k11.0 k2.0 k3.0 k5.0 k7.0 k6.0) g) k6.1
