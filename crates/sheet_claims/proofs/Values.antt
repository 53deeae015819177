-- Along a history every step, increment and index is a multiple of 2 ^ -192, and so a position. Assumes nothing.
use mathlib.Core.Bool.{Bool, true, ◌&&◌, cond}
use mathlib.Core.List.{List, []}
use mathlib.Core.Path.{◌≡◌, refl, sym, ap, ◌∙◌, subst}
use Prim.Native.Nat.{ℕ, zero, suc, ◌+◌, ◌*◌, ◌^◌, ◌≤◌, ◌<◌}
use native.Mathlib.Nat.{le_trans, lt_of_not-le, zero-lt-suc, dvd-zero, dvd-mul_left, dvd-add, mod-eq-zero_of_dvd, mul-div_cancel', mul-le-mul_left, mul-le-mul_right, mul-pos}
use native.Mathlib.Omega.{arith}
use borrow.Author.Tests.{eq-eqb}
use lib.Dec.{eqb, eqb-suc-zero, leb, lit≤}
use lib.Ieee.{Float, binary64, fits, of_bits}
use lib.Ieee.Bits.{is_true}
use lib.Ieee.Scale.{finite}
use lib.ListN.{length}
use lib.Pow.{pow_pos}
use Rattle.exact.specs.Doubles.{◌-f◌, ◌/f◌, count, zero_f, two_f, above_zero, at_least_one}
use Rattle.exact.specs.Whole.{Whole, ◌⊕◌, ◌⊙◌, AtMost, Below, Within}
use Rattle.exact.specs.Exact.{mag, exact, Number}
use Rattle.error.specs.Refusals.{Said, given, refused}
use Rattle.error.proofs.Ladder.{accepted, same_given, join}
use Rattle.kinds.specs.Kinds.{kind_holds}
use Rattle.kinds.proofs.Laws.{points_few}
use Rattle.sizes.specs.Bounds.{is_ratio, is_channels}
use Rattle.sizes.specs.Sizes.{start_of}
use Rattle.state.specs.declared.State.{State}
use Rattle.state.specs.Record.{points_in, step_now_of, step_then_of, maxima_hold, is_state, update_lengths}
use Rattle.state.proofs.Checked.{check_accepted}
use Rattle.state.proofs.Valid.{valid}
use Rattle.construction.specs.Construction.{fresh_state, with_fill, filled, first_lengths, construct}
use Rattle.shape.specs.Shape.{work_holds}
use Rattle.plan.specs.Plan.{increment_of, index_after, after_block, restored, resetting}
use Rattle.process.specs.Block.{reset_end}
use Rattle.position.specs.History.{Start, constructed, restarted}
use Rattle.position.specs.Position.{ledger}
use Rattle.position.proofs.Amounts.{zero_exact, count_exact, mag_is}
use Rattle.position.proofs.Tests.{holds, index_of}
use Rattle.position.proofs.Steps.{Pace, Step, step_now, step_then, difference, increment_near}
use Rattle.position.proofs.Path.{path_index}
use Rattle.position.proofs.Accepted.{sizes_given, Passed, moved}
use Rattle.position.proofs.Lasting.{lasting}
use Rattle.positions.specs.Positions.{unit, is_multiple, position_of}
use Rattle.sheet_claims.proofs.Multiples.{Divides, Multiple, fewer, minus, less, walk_multiple, large, quotient}

-- ---- a number that is such a multiple, as a position
pub is_multiple_lem : (x : Float) → Number binary64 x → Multiple 882 x → is_multiple x ≡ true
unfolding unit
is_multiple_lem x n m = join (is_true (finite x) n.0) (eq-eqb _ 0 (mod-eq-zero_of_dvd unit (dvd-add (2 ^ 882) m.parts.0 m.parts.1)))

pub units_of : (x : Float) → Multiple 882 x → unit ⊙ position_of x ≡ exact binary64 x
unfolding unit
units_of x m = λ i. (mul-div_cancel' (2 ^ 882) m.parts.0 i, mul-div_cancel' (2 ^ 882) m.parts.1 i)

-- ---- a count, a step, an increment
count_mag : (n : ℕ) → 0 < n → n ≤ 65536 → mag binary64 (count n) ≡ n * 2 ^ 1074
count_mag n p l = let c = count_exact n (le_trans l (lit≤ tt)) in mag_is (n * 2 ^ 1074) (count n) c.0 (mul-pos p (pow_pos 1074)) c.1

count_multiple : (n : ℕ) → n ≤ 65536 → Multiple 1074 (count n)
count_multiple n l =
    let c = count_exact n (le_trans l (lit≤ tt)) in
    record { double = c.0.1; parts = subst (Divides 1074) (sym c.1) (dvd-mul_left (2 ^ 1074) n, dvd-zero (2 ^ 1074)) }

step_multiple : (t : Float) → Step t → Multiple 1012 t
step_multiple t a = large 1012 t a.number (never_below (2 ^ 1065) (exact binary64 t) a.pace.least)
  where
    never_below : (b : ℕ) (v : Whole) → AtMost (b, 0) v → Below b v → ⊥
    never_below b v h k = omega arith

-- x is a number, a multiple, and below 2 ^ 10
pub record Small (x : Float) : Type 0 where
  pub number : Number binary64 x
  pub multiple : Multiple 882 x
  pub below : Below (2 ^ 1084) (exact binary64 x)

pace_below : (h : ℕ) (t : Whole) → Pace h t → Below (2 ^ 10 * (2 ^ 46 * h)) t
pace_below h t a = omega arith

step_small : (t : Float) → Step t → Small t
step_small t a = record { number = a.number; multiple = fewer 882 1012 t (lit≤ tt) (step_multiple t a); below = pace_below (2 ^ 1028) (exact binary64 t) a.pace }

all_below_lem : (h n : ℕ) (t u d : Whole) → Pace h t → Pace h u → n ≤ 65536 → Within (n * (2 * h) + 2 * h) (t ⊕ n ⊙ d) u → Below (2 ^ 10 * (2 ^ 46 * h)) (n ⊙ d)
all_below_lem h n t u d a b l w = omega (arith, mul-le-mul_right h l)

one_below : (n b : ℕ) (v : Whole) → 0 < n → Below b (n ⊙ v) → Below b v
one_below n b v p h = (
  lt_of_not-le (λ (g : v.1 + b ≤ v.0). omega (arith, mul-le-mul_left n g, mul-le-mul_right b p)),
  lt_of_not-le (λ (g : v.0 + b ≤ v.1). omega (arith, mul-le-mul_left n g, mul-le-mul_right b p)),
)

ramp_small : (t u : Float) → Step t → Step u → (n : ℕ) → 0 < n → n ≤ 65536 → Small ((u -f t) /f count n)
ramp_small t u a b n p l =
    let d = (u -f t) /f count n in
    let w = increment_near t u a b n p l in
    let e = count_mag n p l in
    let m = quotient (u -f t) (count n) (difference t u a b).0 (less 1012 (lit≤ tt) u t (step_multiple u b) (step_multiple t a)) (count_exact n (le_trans l (lit≤ tt))).0
    (subst (λ (x : ℕ). 0 < x) (sym e) (mul-pos p (pow_pos 1074))) (subst (λ (x : ℕ). x ≤ 2 ^ 1090) (sym e) (mul-le-mul_right (2 ^ 1074) l)) in
    record {
      number = w.0;
      multiple = fewer 882 943 d (lit≤ tt) m;
      below = one_below n (2 ^ 1084) (exact binary64 d) p (all_below_lem (2 ^ 1028) n (exact binary64 t) (exact binary64 u) (exact binary64 d) a.pace b.pace l w.1);
    }

zero_small : Small zero_f
zero_small =
    let z = zero_exact in
    record {
      number = z.0;
      multiple = record { double = z.0.1; parts = subst (Divides 882) (sym z.1) (dvd-zero (2 ^ 882), dvd-zero (2 ^ 882)) };
      below = subst (Below (2 ^ 1084)) (sym z.1) (pow_pos 1084, pow_pos 1084);
    }

-- ---- those of a block
module _ (s : State) (m : Multiple 882 s.index) (h : is_state s ≡ true) where
  abbrev inc_at : ℕ → Float
  inc_at n = cond (eqb n 0) zero_f ((step_then_of s -f step_now_of s) /f count n)

  inc_small : (n : ℕ) → n ≤ 65536 → Small (inc_at n)
  inc_small zero l = zero_small
  inc_small (suc n) l =
      let k : inc_at (suc n) ≡ (step_then_of s -f step_now_of s) /f count (suc n) = ap (λ (b : Bool). cond b zero_f ((step_then_of s -f step_now_of s) /f count (suc n))) (eqb-suc-zero n) in
      subst Small (sym k) (ramp_small (step_now_of s) (step_then_of s) (step_now s h) (step_then s h) (suc n) (zero-lt-suc n) l)

  pub now_small : Small (step_now_of s)
  now_small = step_small (step_now_of s) (step_now s h)

  pub increment_small : Small (increment_of s)
  increment_small = inc_small s.output (valid s h).output_few

  after_multiple : Multiple 882 (index_after s)
  after_multiple =
      let t = step_now_of s in
      let d = increment_of s in
      subst (Multiple 882) (sym (path_index t d s.index s.output)) (walk_multiple 882 (lit≤ tt) s.output s.index t d m now_small.multiple increment_small.multiple)

  pub left_multiple : Multiple 882 (after_block s).index
  left_multiple = less 882 (lit≤ tt) (index_after s) (count s.input) after_multiple (fewer 882 1074 (count s.input) (lit≤ tt) (count_multiple s.input (valid s h).input_few))

-- ---- the index that a history starts with is -(L/2), of at most 256 points
two_is : Number binary64 two_f × (mag binary64 two_f ≡ 2 ^ 1075)
unfolding of_bits fits
two_is = ((tt, tt), refl)

start_multiple : (l : ℕ) → l ≤ 256 → Multiple 882 (start_of l)
start_multiple l h =
    let k : l ≤ 65536 = le_trans h (lit≤ tt) in
    let e = two_is.1 in
    minus 882 (count l /f two_f) (fewer 882 943 (count l /f two_f) (lit≤ tt)
    (quotient (count l) two_f (count_exact l (le_trans h (lit≤ tt))).0 (fewer 1012 1074 (count l) (lit≤ tt) (count_multiple l k)) two_is.0
    (subst (λ (x : ℕ). 0 < x) (sym e) (pow_pos 1075)) (subst (λ (x : ℕ). x ≤ 2 ^ 1090) (sym e) (lit≤ tt))))

-- the end of every call changes the sizes only
ended : (s t : State) → update_lengths s ≡ given t → t.index ≡ s.index
ended s t e = ap (λ (r : State). r.index) (sizes_given s t e)

never : {A : Type 0} (n : ℕ) (vs : List Float) (a : A) → refused n vs ≡ given a → ⊥
never n vs a e = let z : ◌≡◌ {A = ℕ} 0 1 = cc in omega arith

filled_index : (r : Said State) (s : State) (i : Float) → ((t : State) → r ≡ given t → t.index ≡ i) → filled r ≡ given s → s.index ≡ i
filled_index (given t) s i k e = ap (λ (r : State). r.index) (sym (same_given (with_fill t t.input) s e)) ∙ k t refl
filled_index (refused n vs) s i k e = absurd (never n vs s e)

reset_multiple : (s : State) (work : List Float) (r : Said State) → ((t : State) → r ≡ given t → Multiple 882 t.index) → (reset_end s work r).said ≡ given tt → Multiple 882 (reset_end s work r).state.index
reset_multiple s work (given t) k e = k t refl
reset_multiple s work (refused n vs) k e = absurd (never n vs tt e)

pub start_index : (s : State) → Start s → Multiple 882 s.index
unfolding construct first_lengths resetting
start_index s (constructed r m kind c channels fixed s' e) =
    let f = fresh_state r m kind c channels fixed in
    let k0 = accepted (kind_holds kind) _ _ _ s' e in
    let k1 = accepted (above_zero r) _ _ _ s' k0.1 in
    let k2 = accepted (at_least_one m) _ _ _ s' k1.1 in
    let k3 = accepted (leb 1 c) _ _ _ s' k2.1 in
    let k5 = accepted (is_ratio r) _ _ _ s' k3.1 in
    let k7 = accepted (is_channels channels) _ _ _ s' k5.1 in
    let k6 = accepted (maxima_hold f) _ _ _ s' k7.1 in
    subst (Multiple 882) (sym (filled_index (update_lengths f) s' (start_of (points_in f)) (ended f) k6.1)) (start_multiple (points_in f) (points_few kind k0.0))
start_index s (restarted s' work e) =
    reset_multiple s' work (resetting s' (length work)) (λ t g.
    let a = check_accepted s' _ t g in
    let b = accepted (work_holds s' (length work)) _ _ _ t a.1 in
    subst (Multiple 882) (sym (ended (restored s') t b.1)) (start_multiple (points_in s') (points_few s'.kind (valid s' a.0).kind_holds_lem))) e

-- ---- along a history: what holds of an accepted block, which leaves the record t
pub record Lived (s t : State) : Type 0 where
  pub now : Small (step_now_of s)
  pub increment : Small (increment_of s)
  pub output_few : s.output ≤ 65536
  pub input_few : s.input ≤ 65536
  pub number : Number binary64 t.index
  pub inside : Below (2 ^ 1091) (exact binary64 t.index)
  pub multiple : Multiple 882 t.index

pub lived : (s t : State) → Multiple 882 s.index → Passed s t → Lived s t
lived s t m p =
    let h = p.state in
    let e : (after_block s).index ≡ t.index = sym (ap (λ (r : State). r.index) p.left) in
    let w = moved s m.double h p.reach in
    record {
      now = now_small s m h;
      increment = increment_small s m h;
      output_few = (valid s h).output_few;
      input_few = (valid s h).input_few;
      number = subst (Number binary64) e w.number;
      inside = subst (λ (x : Float). Below (2 ^ 1091) (exact binary64 x)) e w.inside;
      multiple = subst (Multiple 882) e (left_multiple s m h);
    }

-- so it is no `float`
pub block_floats : (s t : State) → Lived s t → (is_multiple (step_now_of s) && (is_multiple (increment_of s) && is_multiple t.index)) ≡ true
block_floats s t l =
    join (is_multiple_lem (step_now_of s) l.now.number l.now.multiple)
    (join (is_multiple_lem (increment_of s) l.increment.number l.increment.multiple) (is_multiple_lem t.index l.number l.multiple))

-- and the first index is none
pub start_number : (s : State) → Start s → Number binary64 s.index × Below (2 ^ 1091) (exact binary64 s.index)
unfolding ledger
start_number s start = index_of s.index (start_index s start).double (holds (valid s (lasting s start [])).index_inside)

pub start_float : (s : State) → Start s → is_multiple s.index ≡ true
start_float s start = is_multiple_lem s.index (start_number s start).0 (start_index s start)
