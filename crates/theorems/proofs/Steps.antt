-- Document 02, R-2: "After construction, every setting, every block and reset they equal the bits of a fresh division". Assumes nothing.
use mathlib.Core.Bool.{true, false}
use mathlib.Core.Path.{◌≡◌, refl}
use lib.Ieee.{Float, nan, binary64, add, sub, mul, div, neg, round, lt, le, eq, of_int, of_bits, to_bits, fits, is_nan}
use Rattle.exact.specs.Doubles.{one_f, half_f, two_f}
use Rattle.error.specs.Refusals.{unless}
use Rattle.whole.specs.Rounded.{made_whole}
use Rattle.sizes.specs.Sizes.{start_of, size_of, needed_input, needed_output, max_input, max_output}
use Rattle.state.specs.declared.State.{State}
use Rattle.steps.specs.Steps.{step_of}
use Rattle.state.specs.Record.{is_state, changed, update_lengths}
use Rattle.state.proofs.Valid.{valid}
use Rattle.asynchro.specs.Calls.{set_ratio}
use Rattle.path.specs.Path.{path_at}
use Rattle.path.specs.Places.{place_from}
use Rattle.path.specs.Sites.{all_reach}
use Rattle.plan.specs.Plan.{planned, restored}
use Rattle.position.specs.Position.{ledger}
use Rattle.position.proofs.Example.{made, calls, case6}

-- of any record that passes the StateRecord test: each stored step is the division, the same double
pub steps_are : (s : State) → is_state s ≡ true → (s.now ≡ step_of s.current) × (s.then ≡ step_of s.target)
steps_are s h = ((valid s h).step_now_is, (valid s h).step_then_is)

-- ---- computed, on document 01's case 6: ratio 1, then 0.5
-- a setting with ramp, and the block after it; a setting without ramp; what reset restores
pub computed_ramp : ((set_ratio made half_f true).state.now ≡ one_f) × ((set_ratio made half_f true).state.then ≡ two_f) × (case6.state.now ≡ two_f) × (case6.state.then ≡ two_f)
unfolding calls ledger update_lengths planned is_state unless size_of needed_input needed_output max_input max_output made_whole all_reach place_from path_at of_bits to_bits of_int add sub mul div neg round lt eq le fits is_nan
computed_ramp = (refl, refl, refl, refl)

pub computed_jump : ((set_ratio made half_f false).state.now ≡ two_f) × ((set_ratio made half_f false).state.then ≡ two_f) × ((restored (set_ratio made half_f false).state).now ≡ one_f) × ((restored (set_ratio made half_f false).state).then ≡ one_f)
unfolding update_lengths is_state unless size_of needed_input needed_output max_input max_output made_whole of_bits to_bits of_int add sub mul div neg round lt eq le fits is_nan
computed_jump = (refl, refl, refl, refl)

-- the record of case 6 at the end of its setting with ramp, but for its stored steps
abbrev ramping : Float → Float → State
ramping now then = changed made 4 8 4 5 (start_of 2) one_f half_f now then

-- its own steps pass; exchanged, one bit off, or a NaN they fail, each of the two
pub computed_test : (is_state (ramping one_f two_f) ≡ true) × (is_state (ramping two_f one_f) ≡ false)
    × (is_state (ramping (of_bits binary64 0x3ff0_0000_0000_0001) two_f) ≡ false) × (is_state (ramping one_f (of_bits binary64 0x4000_0000_0000_0001)) ≡ false)
    × (is_state (ramping nan two_f) ≡ false) × (is_state (ramping one_f nan) ≡ false)
unfolding is_state size_of needed_input needed_output max_input max_output made_whole of_bits to_bits of_int add sub mul div neg round lt eq le fits is_nan
computed_test = (refl, refl, refl, refl, refl, refl)
