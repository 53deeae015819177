-- What a record that passes the StateRecord test is known to be. Assumes nothing.
use mathlib.Core.Bool.{true, ◌&&◌}
use mathlib.Core.Path.{◌≡◌}
use Prim.Native.Nat.{◌≤◌}
use native.Mathlib.Nat.{le_trans}
use borrow.Author.Tests.{leb-true}
use lib.Dec.{leb}
use Rattle.exact.specs.Doubles.{at_least_one}
use Rattle.error.proofs.Ladder.{both, join}
use Rattle.kinds.specs.Kinds.{kind_holds}
use Rattle.std.specs.Prelude.{Some, is_some}
use Rattle.state.specs.declared.State.{State}
use Rattle.sizes.specs.Bounds.{is_ratio, is_channels, is_chunk, is_size, is_index}
use Rattle.sizes.specs.Sizes.{frames_of, size_equals, size_at_least}
use Rattle.sizes.proofs.Read.{input_small, output_small, max_small, size_is, size_holds, is_some_lem}
use Rattle.steps.specs.Steps.{step_of, is_step}
use Rattle.state.specs.Record.{points_in, step_now_of, step_then_of, input_of, output_of, max_input_of, max_output_of, counts_hold, ratios_hold, steps_hold, maxima_hold, sizes_hold, is_state}
use Rattle.steps.proofs.Steps.{step_is}

-- ---- the parts of the test: all but the needed sizes, and these
pub record Ready (s : State) : Type 0 where
  pub kind : kind_holds s.kind ≡ true
  pub counts : counts_hold s ≡ true
  pub ratios : ratios_hold s ≡ true
  pub steps : steps_hold s ≡ true
  pub maxima : maxima_hold s ≡ true
  pub fill : size_at_least (max_input_of s) s.fill ≡ true
  pub index : is_index s.index ≡ true

pub record Needed (s : State) : Type 0 where
  pub input : size_equals (input_of s) s.input ≡ true
  pub output : size_equals (output_of s) s.output ≡ true
  pub input_most : size_at_least (max_input_of s) s.input ≡ true

pub tests : (s : State) → is_state s ≡ true → Ready s × Needed s
unfolding is_state
tests s h =
    let all4 = both _ _ h in
    let all3 = both _ _ all4.0 in
    let all2 = both (kind_holds s.kind && counts_hold s && ratios_hold s && steps_hold s) (maxima_hold s) all3.0 in
    let all1 = both (kind_holds s.kind && counts_hold s && ratios_hold s) (steps_hold s) all2.0 in
    let all0 = both (kind_holds s.kind && counts_hold s) (ratios_hold s) all1.0 in
    let k = both (kind_holds s.kind) (counts_hold s) all0.0 in
    let z2 = both _ _ all3.1 in
    let z1 = both _ _ z2.0 in
    let z0 = both (size_equals (input_of s) s.input) (size_equals (output_of s) s.output) z1.0 in (
      record { kind = k.0; counts = k.1; ratios = all0.1; steps = all1.1; maxima = all2.1; fill = z2.1; index = all4.1 },
      record { input = z0.0; output = z0.1; input_most = z1.1 },
    )

pub passes : (s : State) → Ready s → Needed s → is_state s ≡ true
unfolding is_state
passes s r n =
    let sizes : sizes_hold s ≡ true = join (join (join n.input n.output) n.input_most) r.fill in
    join (join (join (join (join (join r.kind r.counts) r.ratios) r.steps) r.maxima) sizes) r.index

-- ---- what the test tells
pub record Valid (s : State) : Type 0 where
  pub kind_holds_lem : kind_holds s.kind ≡ true
  pub channels_some : 1 ≤ s.channels
  pub channels_few : s.channels ≤ 16
  pub chunk_some : 1 ≤ s.chunk
  pub chunk_most : s.chunk ≤ s.chunk0
  pub chunk0_few : s.chunk0 ≤ 65536
  pub original_ratio : is_ratio s.original ≡ true
  pub current_ratio : is_ratio s.current ≡ true
  pub target_ratio : is_ratio s.target ≡ true
  pub m_holds : at_least_one s.m ≡ true
  pub step_now_is : step_now_of s ≡ step_of s.current
  pub step_then_is : step_then_of s ≡ step_of s.target
  pub input_is : input_of s ≡ Some s.input
  pub output_is : output_of s ≡ Some s.output
  pub max_input_is : max_input_of s ≡ Some (frames_of (max_input_of s))
  pub max_output_is : max_output_of s ≡ Some (frames_of (max_output_of s))
  pub max_input_few : frames_of (max_input_of s) ≤ 65536
  pub input_most : s.input ≤ frames_of (max_input_of s)
  pub fill_most : s.fill ≤ frames_of (max_input_of s)
  pub input_few : s.input ≤ 65536
  pub output_few : s.output ≤ 65536
  pub fill_few : s.fill ≤ 65536
  pub index_inside : is_index s.index ≡ true

pub valid : (s : State) → is_state s ≡ true → Valid s
valid s h =
    let r = (tests s h).0 in
    let n = (tests s h).1 in
    let n2 = both _ _ r.counts in
    let n1 = both _ _ n2.0 in
    let n0 = both (is_channels s.channels) (is_chunk s.chunk) n1.0 in
    let channels = both (leb 1 s.channels) (leb s.channels 16) n0.0 in
    let chunk = both (leb 1 s.chunk) (is_size s.chunk) n0.1 in
    let chunk0 = both (leb 1 s.chunk0) (is_size s.chunk0) n1.1 in
    let r2 = both _ _ r.ratios in
    let r1 = both _ _ r2.0 in
    let r0 = both (is_ratio s.original) (is_ratio s.current) r1.0 in
    let u = both (is_step s.now s.current) (is_step s.then s.target) r.steps in
    let x = both (is_some (max_input_of s)) (is_some (max_output_of s)) r.maxima in
    let input = size_is (input_of s) s.input n.input in
    let output = size_is (output_of s) s.output n.output in
    let most = max_small s.fixed (points_in s) s.chunk0 s.original s.m in
    let fill = size_holds (max_input_of s) s.fill r.fill in
    record {
      kind_holds_lem = r.kind;
      channels_some = leb-true 1 s.channels channels.0;
      channels_few = leb-true s.channels 16 channels.1;
      chunk_some = leb-true 1 s.chunk chunk.0;
      chunk_most = leb-true s.chunk s.chunk0 n2.1;
      chunk0_few = leb-true s.chunk0 65536 chunk0.1;
      original_ratio = r0.0;
      current_ratio = r0.1;
      target_ratio = r1.1;
      m_holds = r2.1;
      step_now_is = step_is s.now s.current u.0;
      step_then_is = step_is s.then s.target u.1;
      input_is = input;
      output_is = output;
      max_input_is = is_some_lem (max_input_of s) x.0;
      max_output_is = is_some_lem (max_output_of s) x.1;
      max_input_few = most;
      input_most = size_holds (max_input_of s) s.input n.input_most;
      fill_most = fill;
      input_few = rw input at (input_small s.fixed (points_in s) s.chunk s.index (step_now_of s) (step_then_of s));
      output_few = rw output at (output_small s.fixed (points_in s) s.chunk s.index (step_now_of s) (step_then_of s));
      fill_few = le_trans fill most;
      index_inside = r.index;
    }
