-- The line along live calls is demand 3's ledger, it is inside the bound, and it never ends with `float`. Assumes nothing.
use mathlib.Core.Bool.{Bool, true, false, ◌&&◌, cond}
use mathlib.Core.List.{List, [], ◌∷◌}
use mathlib.Core.Path.{◌≡◌, refl, sym, ap, ◌∙◌, subst}
use Prim.Native.Nat.{ℕ, ◌+◌, ◌*◌, ◌-◌, ◌%◌, ◌^◌, ◌≤◌, ◌<◌}
use native.Mathlib.Nat.{le_of_lt, lt_of_le_of_lt, le_of_mul-le-mul_left, mod-eq_of_lt, mul-le-mul_left, mul-le-mul_right}
use native.Mathlib.Omega.{arith}
use borrow.Author.Tests.{ltb-true, le-leb}
use lib.Dec.{lit<}
use lib.Ieee.{Float, binary64, eq}
use lib.ListN.{length}
use lib.Pow.{pow_pos}
use Rattle.exact.specs.Doubles.{zero_f}
use Rattle.exact.specs.Whole.{Whole, ◌⊕◌, ◌⊙◌, Same, Within}
use Rattle.exact.specs.Exact.{exact}
use Rattle.exact.specs.Running.{tri}
use Rattle.error.specs.Refusals.{Said, given, refused}
use Rattle.error.proofs.Ladder.{both}
use Rattle.state.specs.declared.State.{State}
use Rattle.state.specs.Record.{step_now_of}
use Rattle.plan.specs.Plan.{increment_of, planned}
use Rattle.process.specs.Block.{sizes_of, block_end}
use Rattle.position.specs.History.{Start, Call, ratio, relative, chunk, block, left_by}
use Rattle.position.specs.Position.{Account, Ledger, opened, added, accounted, ledger, stored, bound}
use Rattle.position.proofs.Accepted.{Passed, passed}
use Rattle.position.proofs.Keeps.{ratio_index, relative_index, chunk_index}
use Rattle.position.proofs.Drift.{drift}
use Rattle.big.specs.Value.{full}
use Rattle.positions.specs.Positions.{unit, one, plain, inside, apart, position_of}
use Rattle.lines.specs.Lines as lines
use Rattle.lines.specs.Lines.{Figures, Going, on, ended, move_of, allowed, grown, is_count, block_fits, figures_fit, check, started, is_inside}
use Rattle.lines.specs.declared.End.{End}
use Rattle.lines.specs.declared.End.TheVariants as end
use Rattle.sheet_claims.specs.Live.{grown_by, line_after, line_along, live_line, IsLedger}
use Rattle.sheet_claims.proofs.Multiples.{Multiple}
use Rattle.sheet_claims.proofs.Values.{units_of, start_index, Lived, lived, block_floats, start_float}

-- ---- the figures in units of 2 ^ -1074: U of them are one of the line's
plain_same : (U : ℕ) (v : Whole) → Same (U ⊙ plain v) (U ⊙ v)
plain_same U v = go U v.0 v.1 (v.0 - v.1) (v.1 - v.0) (omega arith)
  where
    go : (U a b c d : ℕ) → c + b ≡ a + d → U * c + U * b ≡ U * a + U * d
    go U a b c d e = omega (arith, ap (λ (x : ℕ). U * x) e)

same_trans : (u v w : Whole) → Same u v → Same v w → Same u w
same_trans u v w h k = omega arith

move_same : (U n q : ℕ) (v w t d : Whole) → Same (U ⊙ v) w → Same (U ⊙ (v ⊕ (n ⊙ t ⊕ q ⊙ d))) (w ⊕ (n ⊙ (U ⊙ t) ⊕ q ⊙ (U ⊙ d)))
move_same U n q v w t d h = omega arith

input_same : (U O W x : ℕ) (i : Whole) → U * O ≡ W → Same (U ⊙ ((x * O, 0) ⊕ i)) ((x * W, 0) ⊕ U ⊙ i)
input_same U O W x i e = omega (arith, ap (λ (z : ℕ). x * z) e)

-- what a block adds to the bound, in these units; P and Q are 2 ^ -37 and 2 ^ -46
allowed_is : (n P Q U K L : ℕ) (z : Bool) → P * U ≡ K → Q * U ≡ L → ((n + 1) * P + cond z 0 (n * (n + 1) * Q)) * U ≡ (n + 1) * K + cond z 0 (n * (n + 1) * L)
allowed_is n P Q U K L true e h = omega (arith, ap (λ (x : ℕ). (n + 1) * x) e)
allowed_is n P Q U K L false e h = omega (arith, ap (λ (x : ℕ). (n + 1) * x) e, ap (λ (x : ℕ). n * (n + 1) * x) h)

bound_grows : (U K N B R m n p w : ℕ) → m * U ≡ (N + B) * K + R → p * U ≡ (n + 1) * K + w → (m + p) * U ≡ (N + n + (B + 1)) * K + (R + w)
bound_grows U K N B R m n p w h k = omega arith

-- ---- the bound stays below 2 ^ 256: n(n+1) is at most 65537 n
abbrev Held : ℕ → ℕ → ℕ → Type 0
Held N B m = m ≤ (N + B) * 2 ^ 155 + N * (65537 * 2 ^ 146)

allowed_most : (n P Q : ℕ) (z : Bool) → n ≤ 65536 → (n + 1) * P + cond z 0 (n * (n + 1) * Q) ≤ (n + 1) * P + n * (65537 * Q)
allowed_most n P Q true l = omega arith
allowed_most n P Q false l = omega (arith, mul-le-mul_left (n * Q) l)

held_grows : (N B n P R m p : ℕ) → m ≤ (N + B) * P + N * R → p ≤ (n + 1) * P + n * R → m + p ≤ (N + n + (B + 1)) * P + (N + n) * R
held_grows N B n P R m p h k = omega arith

held_under : (N B M P R m : ℕ) → N ≤ M → B ≤ M → m ≤ (N + B) * P + N * R → m ≤ (M + M) * P + M * R
held_under N B M P R m a b h = omega (arith, mul-le-mul_right P a, mul-le-mul_right P b, mul-le-mul_right R a)

held_room : (N B m : ℕ) → N < 18446744073709551616 → B < 18446744073709551616 → Held N B m → m < full
unfolding full
held_room N B m a b h = lt_of_le_of_lt (held_under N B 18446744073709551616 (2 ^ 155) (65537 * 2 ^ 146) m (le_of_lt a) (le_of_lt b) h) (lit< tt)

-- ---- a record, the line's figures and the account
pub record Kept (s : State) (f : Figures) (a : Account) : Type 0 where
  pub multiple : Multiple 882 s.index
  pub is : IsLedger f (record { state = s; account = a })
  pub held : Held f.frames f.blocks f.most

-- a setting leaves the index
pub set_kept : (s t : State) (f : Figures) (a : Account) → t.index ≡ s.index → Kept s f a → Kept t f a
set_kept s t f a e k =
    let l = k.is in
    record {
      multiple = subst (Multiple 882) (sym e) k.multiple;
      is = record {
        frames_are = l.frames_are;
        blocks_are = l.blocks_are;
        inputs_are = l.inputs_are;
        exactly_is = l.exactly_is;
        stored_is = subst (λ (x : Float). Same (unit ⊙ f.stored) ((a.inputs * 2 ^ 1074, 0) ⊕ exact binary64 x)) (sym e) l.stored_is;
        most_is = l.most_is;
      };
      held = k.held;
    }

-- a block, where the counts are 64-bit numbers after it
module _ (s t : State) (f : Figures) (a : Account) (k : Kept s f a) (v : Lived s t) where
  abbrev next : Figures
  next = grown f s.output s.input (step_now_of s) (increment_of s) t.index

  abbrev after : Ledger
  after = record { state = t; account = added s a (given (sizes_of s)) }

  exactly_after : Same (unit ⊙ next.exactly) after.account.exactly
  exactly_after =
      let n = s.output in
      let x = f.exactly ⊕ move_of n (step_now_of s) (increment_of s) in
      same_trans (unit ⊙ plain x) (unit ⊙ x) after.account.exactly (plain_same unit x)
      (subst (λ (z : Whole). Same (unit ⊙ x) (a.exactly ⊕ (n ⊙ z ⊕ tri n ⊙ exact binary64 (increment_of s)))) (units_of (step_now_of s) v.now.multiple)
      (subst (λ (z : Whole). Same (unit ⊙ x) (a.exactly ⊕ (n ⊙ (unit ⊙ position_of (step_now_of s)) ⊕ tri n ⊙ z))) (units_of (increment_of s) v.increment.multiple)
      (move_same unit n (tri n) f.exactly a.exactly (position_of (step_now_of s)) (position_of (increment_of s)) k.is.exactly_is)))

  stored_after : Same (unit ⊙ next.stored) (stored after)
  unfolding unit one
  stored_after =
      let x = ((f.inputs + s.input) * one, 0) ⊕ position_of t.index in
      same_trans (unit ⊙ plain x) (unit ⊙ x) (stored after) (plain_same unit x)
      (subst (λ (i : ℕ). Same (unit ⊙ x) (((i + s.input) * 2 ^ 1074, 0) ⊕ exact binary64 t.index)) k.is.inputs_are
      (subst (λ (z : Whole). Same (unit ⊙ x) (((f.inputs + s.input) * 2 ^ 1074, 0) ⊕ z)) (units_of t.index v.multiple)
      (input_same unit one (2 ^ 1074) (f.inputs + s.input) (position_of t.index) refl)))

  held_after : Held next.frames next.blocks (f.most + allowed s.output (increment_of s))
  held_after =
      held_grows f.frames f.blocks s.output (2 ^ 155) (65537 * 2 ^ 146) f.most (allowed s.output (increment_of s)) k.held
      (allowed_most s.output (2 ^ 155) (2 ^ 146) (eq (increment_of s) zero_f) v.output_few)

  most_after : (f.most + allowed s.output (increment_of s)) * unit ≡ bound after
  unfolding unit
  most_after =
      bound_grows unit (2 ^ 1037) a.frames a.blocks a.ramps f.most s.output (allowed s.output (increment_of s)) (cond (eq (increment_of s) zero_f) 0 (s.output * (s.output + 1) * 2 ^ 1028)) k.is.most_is
      (allowed_is s.output (2 ^ 155) (2 ^ 146) unit (2 ^ 1037) (2 ^ 1028) (eq (increment_of s) zero_f) refl refl)

  pub grown_kept : next.frames < 18446744073709551616 → next.blocks < 18446744073709551616 → Kept t next (added s a (given (sizes_of s)))
  grown_kept hf hb =
      let m = f.most + allowed s.output (increment_of s) in
      let e : m % full ≡ m = mod-eq_of_lt (held_room next.frames next.blocks m hf hb held_after) in
      record {
        multiple = v.multiple;
        is = record {
          frames_are = ap (λ (x : ℕ). x + s.output) k.is.frames_are;
          blocks_are = ap (λ (x : ℕ). x + 1) k.is.blocks_are;
          inputs_are = ap (λ (x : ℕ). x + s.input) k.is.inputs_are;
          exactly_is = exactly_after;
          stored_is = stored_after;
          most_is = ap (λ (x : ℕ). x * unit) e ∙ most_after;
        };
        held = subst (Held next.frames next.blocks) (sym e) held_after;
      }

-- ---- a line that goes on is kept, and the word of one that ended is `range`
abbrev KeptGoing : State → Going → Account → Type 0
KeptGoing s (on f) a = Kept s f a
KeptGoing s (ended e) a = e ≡ end.Range

check_kept : (t : State) (f : Figures) (a : Account) (b c : Bool) → b ≡ true → (c ≡ true → Kept t f a) → KeptGoing t (check b end.Float (check c end.Range (on f))) a
unfolding check
check_kept t f a true true h k = k refl
check_kept t f a true false h k = refl
check_kept t f a false c h k = absurd (let z : ◌≡◌ {A = ℕ} 0 1 = cc in omega arith)

-- the figures' test says that the counts are 64-bit numbers
counts_of : (f : Figures) → figures_fit f ≡ true → (f.frames < 18446744073709551616) × (f.blocks < 18446744073709551616)
counts_of f h =
    let a = both (inside f.exactly) (inside f.stored && (is_count f.frames && is_count f.blocks)) h in
    let b = both (inside f.stored) (is_count f.frames && is_count f.blocks) a.1 in
    let c = both (is_count f.frames) (is_count f.blocks) b.1 in
    (ltb-true f.frames 18446744073709551616 c.0, ltb-true f.blocks 18446744073709551616 c.1)

given_kept : (s t : State) (f : Figures) (a : Account) → Kept s f a → Passed s t → KeptGoing t (grown_by s (on f) (given (sizes_of s)) t.index) (added s a (given (sizes_of s)))
given_kept s t f a k p =
    let v = lived s t k.multiple p in
    let g = grown f s.output s.input (step_now_of s) (increment_of s) t.index in
    check_kept t g (added s a (given (sizes_of s))) _ _ (block_floats s t v) (λ h.
    let c = counts_of g (both (block_fits s.output (step_now_of s) (increment_of s) t.index) (figures_fit g) h).1 in
    grown_kept s t f a k v c.0 c.1)

block_kept : (s : State) (g : Going) (a : Account) (frames mask : ℕ) (table input output work : List Float) (r : Said State) → planned s frames mask (length table) (length input) (length output) (length work) ≡ r
    → KeptGoing s g a → let o = block_end s frames mask table input output work r in KeptGoing o.state (grown_by s g o.said o.state.index) (added s a o.said)
block_kept s (on f) a frames mask table input output work (given t) e k = given_kept s t f a k (passed s t frames mask (length table) (length input) (length output) (length work) e)
block_kept s (on f) a frames mask table input output work (refused n vs) e k = k
block_kept s (ended w) a frames mask table input output work r e k = k

set_going : (s t : State) (g : Going) (a : Account) → t.index ≡ s.index → KeptGoing s g a → KeptGoing t g a
set_going s t (on f) a e k = set_kept s t f a e k
set_going s t (ended w) a e k = k

call_kept : (s : State) (g : Going) (a : Account) (c : Call) → KeptGoing s g a → KeptGoing (left_by s c) (line_after s g c) (accounted s a c)
call_kept s g a (ratio r ramp) k = set_going s _ g a (ratio_index s r ramp) k
call_kept s g a (relative rel ramp) k = set_going s _ g a (relative_index s rel ramp) k
call_kept s g a (chunk n) k = set_going s _ g a (chunk_index s n) k
call_kept s g a (block frames mask table input output work) k = block_kept s g a frames mask table input output work _ refl k

calls_kept : (s : State) (g : Going) (a : Account) (cs : List Call) → KeptGoing s g a → KeptGoing (ledger s a cs).state (line_along s g cs) (ledger s a cs).account
unfolding ledger line_along
calls_kept s g a [] k = k
calls_kept s g a (c ∷ cs) k = calls_kept (left_by s c) (line_after s g c) (accounted s a c) cs (call_kept s g a c k)

-- at the start nothing is added up
start_same : (W : ℕ) (U : ℕ) (p i : Whole) → U ⊙ p ≡ i → Same (U ⊙ p) i × Same (U ⊙ p) ((0 * W, 0) ⊕ i)
start_same W U p i e = subst (λ (z : Whole). Same (U ⊙ p) z × Same (U ⊙ p) ((0 * W, 0) ⊕ z)) e (omega arith)

pub start_kept : (s : State) → Start s → Kept s (lines.opened (position_of s.index)) (opened s)
start_kept s start =
    let m = start_index s start in
    let q = start_same (2 ^ 1074) unit (position_of s.index) (exact binary64 s.index) (units_of s.index m) in
    record {
      multiple = m;
      is = record { frames_are = refl; blocks_are = refl; inputs_are = refl; exactly_is = q.0; stored_is = q.1; most_is = none unit (2 ^ 1037) };
      held = least (2 ^ 155) (65537 * 2 ^ 146);
    }
  where
    none : (U K : ℕ) → 0 * U ≡ (0 + 0) * K + 0
    none U K = omega arith

    least : (P R : ℕ) → 0 ≤ (0 + 0) * P + 0 * R
    least P R = omega arith

start_going : (s : State) → Start s → KeptGoing s (started s.index) (opened s)
start_going s start = check_kept s (lines.opened (position_of s.index)) (opened s) _ _ (start_float s start) (λ h. start_kept s start)

live_kept : (s : State) → Start s → (cs : List Call) → KeptGoing (ledger s (opened s) cs).state (live_line s cs) (ledger s (opened s) cs).account
live_kept s start cs = calls_kept s (started s.index) (opened s) cs (start_going s start)

-- ---- "and a live line's figures are the ledger's"
pub live_ledger : (s : State) → Start s → (cs : List Call) → (f : Figures) → live_line s cs ≡ on f → IsLedger f (ledger s (opened s) cs)
live_ledger s start cs f e =
    let l = ledger s (opened s) cs in
    let k : Kept l.state f l.account = subst (λ (g : Going). KeptGoing l.state g l.account) e (live_kept s start cs) in
    k.is

-- a line never ends with `float`
pub live_ends : (s : State) → Start s → (cs : List Call) → (e : End) → live_line s cs ≡ ended e → e ≡ end.Range
live_ends s start cs e h = subst (λ (g : Going). KeptGoing (ledger s (opened s) cs).state g (ledger s (opened s) cs).account) h (live_kept s start cs)

-- ---- and it is inside the bound
apart_most : (U m b : ℕ) (v w x y : Whole) → 0 < U → Same (U ⊙ v) x → Same (U ⊙ w) y → m * U ≡ b → Within b y x → apart v w ≤ m
apart_most U m b v w x y P h k e n =
    let p : U * (v.0 + w.1) ≤ U * (v.1 + w.0 + m) = omega arith in
    let q : U * (v.1 + w.0) ≤ U * (v.0 + w.1 + m) = omega arith in
    omega (arith, le_of_mul-le-mul_left p P, le_of_mul-le-mul_left q P)

pub live_inside : (s : State) → Start s → (cs : List Call) → (f : Figures) → live_line s cs ≡ on f → is_inside f ≡ true
unfolding unit
live_inside s start cs f e =
    let l = ledger s (opened s) cs in
    let i = live_ledger s start cs f e in
    le-leb _ _ (apart_most unit f.most (bound l) f.exactly f.stored l.account.exactly (stored l) (pow_pos 882) i.exactly_is i.stored_is i.most_is (drift s start cs))
