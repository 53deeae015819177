-- Document 01's case 6 as a history, computed: Linear, fixed output 4, m 2, ramp 1 to 0.5; then one block. The exact and the stored position are both 5.5. Assumes nothing.
use mathlib.Core.Bool.{true}
use mathlib.Core.List.{List, [], ◌∷◌}
use mathlib.Core.Path.{◌≡◌, refl}
use Prim.Native.Nat.{◌*◌, ◌^◌}
use lib.Ieee.{add, sub, mul, div, neg, round, lt, le, eq, of_int, of_bits, to_bits, fits, is_nan}
use lib.ListN.{replicate}
use Rattle.exact.specs.Doubles.{zero_f, one_f, half_f, two_f}
use Rattle.exact.specs.Whole.{Same}
use Rattle.exact.specs.Exact.{exact}
use Rattle.exact.specs.Running.{tri}
use Rattle.error.specs.Refusals.{unless}
use Rattle.whole.specs.Rounded.{made_whole}
use Rattle.asynchro_fast.specs.declared.PolynomialDegree.TheVariants.{Linear}
use Rattle.sizes.specs.declared.FixedAsync.TheVariants.{Output}
use Rattle.state.specs.declared.State.{State}
use Rattle.sizes.specs.Sizes.{start_of, size_of, needed_input, needed_output, max_input, max_output}
use Rattle.state.specs.Record.{is_state, update_lengths}
use Rattle.construction.specs.Construction.{construct, first_lengths}
use Rattle.kinds.specs.declared.Kind.TheVariants.{Polynomial}
use Rattle.path.specs.Path.{path_at}
use Rattle.path.specs.Places.{place_from}
use Rattle.path.specs.Sites.{all_reach}
use Rattle.plan.specs.Plan.{planned}
use Rattle.position.specs.History.{Start, constructed, Call, ratio, block}
use Rattle.position.specs.Position.{opened, Ledger, ledger, stored}

-- the record that the construction gives
abbrev pub made : State
made = record { channels = 1; chunk = 4; chunk0 = 4; input = 5; output = 4; fill = 5; index = start_of 2; original = one_f; current = one_f; target = one_f; now = one_f; then = one_f; m = two_f; kind = Polynomial Linear; fixed = Output }

pub made_start : Start made
unfolding construct first_lengths update_lengths unless size_of needed_input needed_output max_input max_output made_whole of_bits of_int add sub mul div neg round lt eq le fits
made_start = constructed one_f two_f (Polynomial Linear) 4 1 Output made refl

unfoldable pub calls : List Call
unfolding of_bits fits
calls = ratio half_f true ∷ block 8 1 [] (replicate 8 zero_f) (replicate 4 zero_f) (replicate 15 zero_f) ∷ []

abbrev pub case6 : Ledger
case6 = ledger made (opened made) calls

-- the block is accepted: 8 frames in, 4 frames out, and it has a ramp
pub case6_counts : (case6.account.inputs ≡ 8) × (case6.account.frames ≡ 4) × (case6.account.blocks ≡ 1) × (case6.account.ramps ≡ 20 * 2 ^ 1028)
unfolding calls ledger update_lengths planned is_state unless size_of needed_input needed_output max_input max_output made_whole all_reach place_from path_at of_bits to_bits of_int add sub mul div neg round lt eq le fits is_nan exact tri
case6_counts = (refl, refl, refl, refl)

-- 5.5 in units of 2 ^ -1074
pub case6_positions : Same (stored case6) (11 * 2 ^ 1073, 0) × Same case6.account.exactly (11 * 2 ^ 1073, 0)
unfolding calls ledger update_lengths planned is_state unless size_of needed_input needed_output max_input max_output made_whole all_reach place_from path_at of_bits to_bits of_int add sub mul div neg round lt eq le fits is_nan exact tri
case6_positions = (refl, refl)
