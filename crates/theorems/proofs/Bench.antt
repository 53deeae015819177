-- The bench cases hold: in each row of the table what the definitions give is what document 01 found. Assumes nothing.
use mathlib.Core.Bool.{true, false}
use mathlib.Core.List.{List, [], ◌∷◌}
use mathlib.Core.Path.{◌≡◌, refl, sym, ap, ◌∙◌}
use lib.Ieee.{Float, add, sub, mul, div, neg, of_int, of_bits, to_bits, lt, le, eq, fits, is_nan, to_signed, to_unsigned}
use lib.ListN.{length, replicate}
use Rattle.exact.specs.Doubles.{count, ◌-f◌, one_f, zero_f}
use Rattle.error.specs.Refusals.{Said, given, refused, unless}
use Rattle.error.proofs.Ladder.{pass, stop}
use Rattle.whole.specs.Rounded.{made_whole}
use Rattle.asynchro_fast.specs.declared.PolynomialDegree.{PolynomialDegree}
use Rattle.asynchro_fast.specs.declared.PolynomialDegree.TheVariants.{Nearest, Linear, Cubic, Quintic, Septic}
use Rattle.asynchro_fast.specs.Kernels.{interp_of}
use Rattle.kinds.specs.declared.Kind.TheVariants.{Polynomial}
use Rattle.interpolation.specs.Grid.{grid_said, point_of}
use Rattle.sizes.specs.declared.FixedAsync.TheVariants.{Input}
use Rattle.state.specs.declared.State.{State}
use Rattle.sizes.specs.Sizes.{size_of, needed_input, needed_output, max_input, max_output}
use Rattle.state.specs.Record.{step_now_of, is_state, changed, update_lengths}
use Rattle.state.proofs.Checked.{check_pass}
use Rattle.construction.specs.Construction.{construct, first_lengths}
use Rattle.asynchro.specs.Calls.{set_ratio}
use Rattle.area.specs.Parts.{parts_to, each_part}
use Rattle.channel.specs.Moves.{moved, loaded}
use Rattle.path.specs.Path.{path_at}
use Rattle.path.specs.Places.{place_from}
use Rattle.path.specs.Sites.{all_reach}
use Rattle.frames.specs.Run.{kernel_at, value_at, frames_to}
use Rattle.path.proofs.Front.{reach_from, reach_from_lem}
use Rattle.shape.specs.Shape.{shape_holds}
use Rattle.plan.specs.Plan.{increment_of, reach_holds, after_block, planned}
use Rattle.process.specs.Block.{work_after, output_after, block_end}
use Rattle.theorems.specs.Bench.{Case, case_1, case_2, case_3, case_4, case_5, case_6, case_7, case_8, case_9, case_10, case_11, case_12, bench, built, septic_made, silence, zeros, first_block, next_block, at_ratio1, block_said, sixteenth_f, size, double, refusal}
use Rattle.theorems.proofs.Block.{work_stays_long}

abbrev pub Holds : Case → Type 0
Holds c = c.gives ≡ c.found

-- every row of a table holds
abbrev pub Every : List Case → Type 0
Every [] = Unit
Every (c ∷ cs) = Holds c × Every cs

-- ---- cases 1 and 2: their blocks go along 63 and 1,035 frames, so Reach is computed from the front, which `reach_from_lem` shows to be the same
begun : State
begun = record { channels = 1; chunk = 1024; chunk0 = 1024; input = 1024; output = 63; fill = 1024; index = neg (count 4); original = sixteenth_f; current = sixteenth_f; target = sixteenth_f; now = count 16; then = count 16; m = count 16; kind = Polynomial Septic; fixed = Input }

begun_is : septic_made ≡ given begun
unfolding begun unless made_whole size_of needed_input needed_output max_input max_output update_lengths first_lengths construct add sub mul div neg of_int of_bits lt le eq
begun_is = refl

-- what the block leaves, and what the setting makes of that
onward : State
onward = record { channels = 1; chunk = 1024; chunk0 = 1024; input = 1024; output = 64; fill = 1024; index = neg (count 20); original = sixteenth_f; current = sixteenth_f; target = sixteenth_f; now = count 16; then = count 16; m = count 16; kind = Polynomial Septic; fixed = Input }

turned : State
turned = record { channels = 1; chunk = 1024; chunk0 = 1024; input = 1024; output = 1035; fill = 1024; index = neg (count 20); original = sixteenth_f; current = one_f; target = one_f; now = one_f; then = one_f; m = count 16; kind = Polynomial Septic; fixed = Input }

begun_holds : is_state begun ≡ true
unfolding begun unless made_whole size_of needed_input needed_output max_input max_output is_state fits is_nan to_bits add sub mul div neg of_int of_bits lt le eq
begun_holds = refl

begun_shape : shape_holds begun 1024 1 0 (length (silence begun)) (length (replicate 63 zero_f)) (length (zeros begun)) ≡ true
unfolding begun made_whole size_of max_input max_output add sub mul div neg of_int of_bits lt le eq
begun_shape = refl

begun_near : reach_from (Polynomial Septic) 1024 (step_now_of begun) (increment_of begun) begun.index 63 ≡ true
unfolding begun reach_from made_whole place_from add sub mul div neg of_int of_bits lt le eq
begun_near = refl

begun_reach : reach_holds begun ≡ true
unfolding begun
begun_reach = sym (reach_from_lem (Polynomial Septic) 1024 (step_now_of begun) (increment_of begun) begun.index 63) ∙ begun_near

begun_path : (path_at (step_now_of begun) (increment_of begun) begun.index 63).index -f count 1024 ≡ neg (count 20)
unfolding begun path_at add sub mul div neg of_int of_bits
begun_path = refl

-- the record after the block, before its sizes are worked out
begun_after : after_block begun ≡ changed begun 1024 1024 63 1024 (neg (count 20)) sixteenth_f sixteenth_f (count 16) (count 16)
unfolding begun
begun_after = ap (λ (i : Float). changed begun 1024 1024 63 1024 i sixteenth_f sixteenth_f (count 16) (count 16)) begun_path

begun_sizes : given onward ≡ update_lengths (changed begun 1024 1024 63 1024 (neg (count 20)) sixteenth_f sixteenth_f (count 16) (count 16))
unfolding begun onward unless made_whole size_of needed_input needed_output max_input max_output update_lengths add sub mul div neg of_int of_bits lt le eq
begun_sizes = refl

begun_planned : planned begun 1024 1 0 (length (silence begun)) (length (replicate 63 zero_f)) (length (zeros begun)) ≡ given onward
unfolding planned
begun_planned = sym (check_pass begun _ _ begun_holds (pass _ _ _ _ _ begun_shape (pass _ _ _ _ _ begun_reach (begun_sizes ∙ ap update_lengths (sym begun_after)))))

begun_left : (first_block begun).state ≡ onward
unfolding begun
begun_left = ap (λ (p : Said State). (block_end begun 1024 1 [] (silence begun) (replicate 63 zero_f) (zeros begun) p).state) begun_planned

holds_1 : Holds case_1
unfolding begun onward
holds_1 =
    ap (λ (c : Said State). built c (λ s. size s.output ∷ double (first_block s).state.index ∷ size (first_block s).state.output ∷ [])) begun_is
    ∙ ap (λ (t : State). size 63 ∷ double t.index ∷ size t.output ∷ []) begun_left

turned_is : (set_ratio onward one_f false).state ≡ turned
unfolding onward turned unless made_whole size_of needed_input needed_output max_input max_output is_state fits is_nan to_bits update_lengths add sub mul div neg of_int of_bits lt le eq
turned_is = refl

turned_holds : is_state turned ≡ true
unfolding turned unless made_whole size_of needed_input needed_output max_input max_output is_state fits is_nan to_bits add sub mul div neg of_int of_bits lt le eq
turned_holds = refl

turned_shape : shape_holds turned 1024 1 0 (length (silence turned)) (length (replicate 1035 zero_f)) (length (zeros begun)) ≡ true
unfolding begun turned made_whole size_of max_input max_output add sub mul div neg of_int of_bits lt le eq
turned_shape = refl

turned_far : reach_from (Polynomial Septic) 1024 (step_now_of turned) (increment_of turned) turned.index 1035 ≡ false
unfolding turned reach_from made_whole place_from add sub mul div neg of_int of_bits lt le eq
turned_far = refl

turned_reach : reach_holds turned ≡ false
unfolding turned
turned_reach = sym (reach_from_lem (Polynomial Septic) 1024 (step_now_of turned) (increment_of turned) turned.index 1035) ∙ turned_far

turned_planned : planned turned 1024 1 0 (length (silence turned)) (length (replicate 1035 zero_f)) (length (zeros begun)) ≡ refused 9 []
unfolding planned
turned_planned = sym (check_pass turned _ _ turned_holds (pass _ _ _ _ _ turned_shape (stop _ _ _ _ turned_reach)))

-- on any working area as long as the one that case 1 began with, as the one that it left is
turned_said : (work : List Float) → length work ≡ length (zeros begun) → next_block turned work ≡ size 1035 ∷ refusal 9 ∷ []
unfolding turned
turned_said work e =
    ap (λ (p : Said State). size 1035 ∷ block_said (block_end turned 1024 1 [] (silence turned) (replicate 1035 zero_f) work p))
    (ap (planned turned 1024 1 0 (length (silence turned)) (length (replicate 1035 zero_f))) e ∙ turned_planned)

holds_2 : Holds case_2
holds_2 =
    ap (λ (c : Said State). built c (λ s. at_ratio1 (first_block s))) begun_is
    ∙ ap (λ (t : State). next_block (set_ratio t one_f false).state (first_block begun).work) begun_left
    ∙ ap (λ (t : State). next_block t (first_block begun).work) turned_is
    ∙ turned_said (first_block begun).work (work_stays_long begun begun.input 1 [] (silence begun) (replicate begun.output zero_f) (zeros begun))

-- ---- the others
holds_3 : Holds case_3
unfolding unless made_whole size_of needed_input needed_output max_input max_output is_state fits is_nan to_bits update_lengths first_lengths construct path_at place_from all_reach planned add sub mul div neg of_int of_bits lt le eq
holds_3 = refl

holds_4 : Holds case_4
unfolding unless made_whole size_of needed_input needed_output max_input max_output is_state fits is_nan to_bits update_lengths first_lengths construct path_at place_from all_reach planned moved loaded parts_to each_part interp_of kernel_at value_at frames_to work_after output_after add sub mul div neg of_int of_bits lt le eq
holds_4 = refl

holds_5 : (a b : Float) → Holds (case_5 a b)
unfolding unless made_whole size_of needed_input needed_output max_input max_output is_state fits is_nan to_bits update_lengths first_lengths construct path_at place_from all_reach planned moved loaded parts_to each_part interp_of kernel_at value_at frames_to work_after output_after add sub mul div neg of_int of_bits lt le eq
holds_5 a b = refl

holds_6 : Holds case_6
unfolding unless made_whole size_of needed_input needed_output max_input max_output is_state fits is_nan to_bits update_lengths first_lengths construct path_at place_from all_reach planned add sub mul div neg of_int of_bits lt le eq
holds_6 = refl

holds_7 : Holds case_7
unfolding unless made_whole size_of needed_input needed_output max_input max_output is_state fits is_nan to_bits update_lengths first_lengths construct path_at place_from all_reach planned add sub mul div neg of_int of_bits lt le eq
holds_7 = refl

holds_8 : (degree : PolynomialDegree) → Holds (case_8 degree)
unfolding unless made_whole size_of needed_input needed_output max_input max_output update_lengths first_lengths construct add sub mul div neg of_int of_bits lt le eq
holds_8 Nearest = refl
holds_8 Linear = refl
holds_8 Cubic = refl
holds_8 Quintic = refl
holds_8 Septic = refl

holds_9 : Holds case_9
unfolding unless made_whole size_of needed_input needed_output max_input max_output is_state fits is_nan to_bits update_lengths first_lengths construct add sub mul div neg of_int of_bits lt le eq
holds_9 = refl

holds_10 : Holds case_10
unfolding unless grid_said point_of made_whole add sub mul div neg of_int of_bits lt to_signed to_unsigned
holds_10 = refl

holds_11 : Holds case_11
unfolding unless grid_said point_of made_whole add sub mul div neg of_int of_bits lt to_signed to_unsigned
holds_11 = refl

holds_12 : Holds case_12
unfolding unless add sub mul div neg of_int of_bits
holds_12 = refl

-- ---- the one fact about the table
pub bench_holds : (a b : Float) (degree : PolynomialDegree) → Every (bench a b degree)
unfolding bench
bench_holds a b degree =
    (holds_1, (holds_2, (holds_3, (holds_4, (holds_5 a b, (holds_6, (holds_7, (holds_8 degree, (holds_9, (holds_10, (holds_11, (holds_12, tt))))))))))))
