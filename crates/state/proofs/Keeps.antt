-- What the one end of every call leaves passes the StateRecord test, and how the counts pass it. Assumes nothing.
use mathlib.Core.Bool.{true}
use mathlib.Core.Path.{◌≡◌, subst}
use Prim.Native.Nat.{◌≤◌}
use native.Mathlib.Nat.{le_trans}
use borrow.Author.Tests.{le-leb}
use Rattle.std.specs.Prelude.{is_some}
use Rattle.error.specs.Refusals.{given}
use Rattle.error.proofs.Ladder.{join, accepted, same_given}
use Rattle.sizes.specs.Bounds.{is_channels, is_chunk}
use Rattle.sizes.specs.Sizes.{frames_of, size_at_least}
use Rattle.sizes.proofs.Read.{own_size}
use Rattle.state.specs.declared.State.{State}
use Rattle.state.specs.Record.{counts_hold, input_of, output_of, max_input_of, is_state, with_sizes, update_lengths}
use Rattle.state.proofs.Valid.{Ready, Needed, passes}

-- ---- the counts, from channels and a chunk that is at most the construction chunk
pub counts_join : (s : State) → is_channels s.channels ≡ true → 1 ≤ s.chunk → s.chunk ≤ s.chunk0 → s.chunk0 ≤ 65536 → counts_hold s ≡ true
counts_join s h a b c =
    let chunk : is_chunk s.chunk ≡ true = join (le-leb 1 s.chunk a) (le-leb s.chunk 65536 (le_trans b c)) in
    let chunk0 : is_chunk s.chunk0 ≡ true = join (le-leb 1 s.chunk0 (le_trans a b)) (le-leb s.chunk0 65536 c) in
    join (join (join h chunk) chunk0) (le-leb s.chunk s.chunk0 b)

-- ---- one law for every call: all of the test but the needed sizes, which the call's end works out
pub update_keeps : (s t : State) → Ready s → update_lengths s ≡ given t → is_state t ≡ true
unfolding update_lengths
update_keeps s t r e =
    let a = accepted (is_some (input_of s)) _ _ _ t e in
    let b = accepted (is_some (output_of s)) _ _ _ t a.1 in
    let c = accepted (size_at_least (max_input_of s) (frames_of (input_of s))) _ _ _ t b.1 in
    let z = with_sizes s (frames_of (input_of s)) (frames_of (output_of s)) in
    let ready : Ready z = record { kind = r.kind; counts = r.counts; ratios = r.ratios; steps = r.steps; maxima = r.maxima; fill = r.fill; index = r.index } in
    let needed : Needed z = record { input = own_size (input_of s) a.0; output = own_size (output_of s) b.0; input_most = c.0 } in
    subst (λ (y : State). is_state y ≡ true) (same_given z t c.1) (passes z ready needed)
