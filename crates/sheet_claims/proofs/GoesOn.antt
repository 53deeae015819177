-- In fewer than 2 ^ 46 blocks no figure of a live line leaves its range, so that the line goes on. In units of 2 ^ -1074. Assumes nothing.
use mathlib.Core.Bool.{Bool, true, false}
use mathlib.Core.List.{List, [], ◌∷◌}
use mathlib.Core.Path.{◌≡◌, refl, sym, ap, ◌∙◌, subst}
use Prim.Native.Nat.{ℕ, ◌+◌, ◌*◌, ◌^◌, ◌≤◌, ◌<◌}
use native.Mathlib.Nat.{le_trans, le_refl, lt_of_le_of_lt, mul-le-mul_right}
use native.Mathlib.Omega.{arith}
use borrow.Author.Tests.{lt-ltb}
use lib.Dec.{lit≤}
use lib.Ieee.{Float, binary64}
use lib.ListN.{length}
use Rattle.exact.specs.Whole.{Below}
use Rattle.exact.specs.Exact.{exact}
use Rattle.error.specs.Refusals.{Said, given, refused}
use Rattle.error.proofs.Ladder.{join}
use Rattle.state.specs.declared.State.{State}
use Rattle.state.specs.Record.{step_now_of}
use Rattle.plan.specs.Plan.{increment_of, planned}
use Rattle.process.specs.declared.Sizes.{Sizes}
use Rattle.process.specs.Block.{sizes_of, block_end, block_of}
use Rattle.position.specs.History.{Start, Call, ratio, relative, chunk, block, left_by}
use Rattle.position.specs.Position.{Account, Ledger, opened, added, accounted, ledger, stored, bound}
use Rattle.position.proofs.Accepted.{passed}
use Rattle.position.proofs.Keeps.{ratio_index, relative_index, chunk_index}
use Rattle.position.proofs.Ledgers.{Near, opened_near, call_near}
use Rattle.positions.specs.Positions.{unit, position_of}
use Rattle.lines.specs.Lines as lines
use Rattle.lines.specs.Lines.{Figures, Going, on, move_of, grown, block_fits, figures_fit, check, started}
use Rattle.lines.specs.declared.End.{End}
use Rattle.sheet_claims.specs.Live.{grown_by, line_after, line_along, live_line}
use Rattle.sheet_claims.proofs.Values.{units_of, Lived, lived, block_floats, start_float, start_number, start_index}
use Rattle.sheet_claims.proofs.Ledgers.{Kept, set_kept, grown_kept, start_kept}
use Rattle.sheet_claims.proofs.Room.{inside_of, wider, same_of, block_fits_lem, stored_below, exactly_below, most_below, counted}

record Few (f : Figures) : Type 0 where
  frames_few : f.frames ≤ f.blocks * 65536
  inputs_few : f.inputs ≤ f.blocks * 65536

module _ (t : State) (f : Figures) (a : Account) (k : Kept t f a) (w : Near t a) (q : Few f) (l : f.blocks < 2 ^ 46) (h : Below (2 ^ 1091) (exact binary64 t.index)) where
  -- the bound is at most this
  abbrev most : ℕ
  most = ((2 ^ 62 + 2 ^ 46) * 2 ^ 155 + 2 ^ 62 * (65537 * 2 ^ 146)) * 2 ^ 882

  bound_below : bound (record { state = t; account = a }) ≤ most
  unfolding unit
  bound_below =
      let c = counted f.frames f.blocks q.frames_few l in
      subst (λ (x : ℕ). x ≤ most) k.is.most_is
      (mul-le-mul_right (2 ^ 882) (most_below f.frames f.blocks (2 ^ 62) (2 ^ 46) (2 ^ 155) (65537 * 2 ^ 146) f.most c.0 c.2 k.held))

  stored_few : Below (2 ^ 62 * 2 ^ 1074 + 2 ^ 1091) (stored (record { state = t; account = a }))
  stored_few =
      stored_below (2 ^ 1074) (2 ^ 62) (2 ^ 1091) a.inputs (exact binary64 t.index)
      (subst (λ (x : ℕ). x ≤ 2 ^ 62) k.is.inputs_are (counted f.inputs f.blocks q.inputs_few l).0) h

  exactly_few : Below (2 ^ 62 * 2 ^ 1074 + 2 ^ 1091 + most) a.exactly
  exactly_few =
      let n : Ledger = record { state = t; account = a } in
      exactly_below (2 ^ 62 * 2 ^ 1074 + 2 ^ 1091) (bound n) most (stored n) a.exactly stored_few w.near bound_below

  figures_fit_lem : figures_fit f ≡ true
  figures_fit_lem =
      let n : Ledger = record { state = t; account = a } in
      let c = counted f.frames f.blocks q.frames_few l in
      join (inside_of f.exactly a.exactly k.is.exactly_is (wider (2 ^ 62 * 2 ^ 1074 + 2 ^ 1091 + most) (2 ^ 1137) a.exactly (lit≤ tt) exactly_few))
      (join (inside_of f.stored (stored n) k.is.stored_is (wider (2 ^ 62 * 2 ^ 1074 + 2 ^ 1091) (2 ^ 1137) (stored n) (lit≤ tt) stored_few))
      (join (lt-ltb f.frames 18446744073709551616 c.1) (lt-ltb f.blocks 18446744073709551616 c.3)))

-- ---- so the line goes on
record Far (s : State) (f : Figures) (a : Account) : Type 0 where
  kept : Kept s f a
  near : Near s a
  few : Few f

check_pass : (b c : Bool) (x y : End) (g : Going) → b ≡ true → c ≡ true → check b x (check c y g) ≡ g
unfolding check
check_pass true true x y g h k = refl
check_pass true false x y g h k = absurd (let z : ◌≡◌ {A = ℕ} 0 1 = cc in omega arith)
check_pass false c x y g h k = absurd (let z : ◌≡◌ {A = ℕ} 0 1 = cc in omega arith)

few_grows : (N B n : ℕ) → N ≤ B * 65536 → n ≤ 65536 → N + n ≤ (B + 1) * 65536
few_grows N B n h l = omega arith

-- the line is on after the call, with the record and the account that it leaves
abbrev OnAfter : State → Going → Account → Type 0
OnAfter s g a = (f : Figures) × (g ≡ on f) × Far s f a

given_far : (s t : State) (f : Figures) (a : Account) → Far s f a → Lived s t → Near t (added s a (given (sizes_of s))) → a.blocks + 1 < 2 ^ 46
    → OnAfter t (grown_by s (on f) (given (sizes_of s)) t.index) (added s a (given (sizes_of s)))
given_far s t f a F v w l =
    let g = grown f s.output s.input (step_now_of s) (increment_of s) t.index in
    let k = F.kept in
    let q : Few g = record {
      frames_few = few_grows f.frames f.blocks s.output F.few.frames_few v.output_few;
      inputs_few = few_grows f.inputs f.blocks s.input F.few.inputs_few v.input_few;
    } in
    let b : g.blocks < 2 ^ 46 = subst (λ (x : ℕ). x + 1 < 2 ^ 46) (sym k.is.blocks_are) l in
    let c = counted g.frames g.blocks q.frames_few b in
    let k' = grown_kept s t f a k v c.1 c.3 in (
      g,
      check_pass _ _ _ _ (on g) (block_floats s t v) (join (block_fits_lem s t v) (figures_fit_lem t g (added s a (given (sizes_of s))) k' w q b v.inside)),
      record { kept = k'; near = w; few = q },
    )

block_far : (s : State) (f : Figures) (a : Account) (frames mask : ℕ) (table input output work : List Float) (r : Said State) → planned s frames mask (length table) (length input) (length output) (length work) ≡ r
    → Far s f a → let o = block_end s frames mask table input output work r in Near o.state (added s a o.said) → (added s a o.said).blocks < 2 ^ 46
    → OnAfter o.state (grown_by s (on f) o.said o.state.index) (added s a o.said)
block_far s f a frames mask table input output work (given t) e F w l =
    given_far s t f a F (lived s t F.kept.multiple (passed s t frames mask (length table) (length input) (length output) (length work) e)) w l
block_far s f a frames mask table input output work (refused n vs) e F w l = (f, refl, F)

set_far : (s t : State) (f : Figures) (a : Account) → t.index ≡ s.index → Near t a → Far s f a → OnAfter t (on f) a
set_far s t f a e w F = (f, refl, record { kept = set_kept s t f a e F.kept; near = w; few = F.few })

call_far : (s : State) (f : Figures) (a : Account) (c : Call) → Far s f a → (accounted s a c).blocks < 2 ^ 46 → OnAfter (left_by s c) (line_after s (on f) c) (accounted s a c)
call_far s f a (ratio r ramp) F l = set_far s _ f a (ratio_index s r ramp) (call_near s a (ratio r ramp) F.near) F
call_far s f a (relative rel ramp) F l = set_far s _ f a (relative_index s rel ramp) (call_near s a (relative rel ramp) F.near) F
call_far s f a (chunk n) F l = set_far s _ f a (chunk_index s n) (call_near s a (chunk n) F.near) F
call_far s f a (block frames mask table input output work) F l =
    block_far s f a frames mask table input output work _ refl F (call_near s a (block frames mask table input output work) F.near) l

-- calls only add blocks
said_blocks : (s : State) (a : Account) (r : Said Sizes) → a.blocks ≤ (added s a r).blocks
said_blocks s a (given z) = omega arith
said_blocks s a (refused n vs) = le_refl a.blocks

call_blocks : (s : State) (a : Account) (c : Call) → a.blocks ≤ (accounted s a c).blocks
call_blocks s a (ratio r ramp) = le_refl a.blocks
call_blocks s a (relative rel ramp) = le_refl a.blocks
call_blocks s a (chunk n) = le_refl a.blocks
call_blocks s a (block frames mask table input output work) = said_blocks s a (block_of s frames mask table input output work).said

calls_blocks : (s : State) (a : Account) (cs : List Call) → a.blocks ≤ (ledger s a cs).account.blocks
unfolding ledger
calls_blocks s a [] = le_refl a.blocks
calls_blocks s a (c ∷ cs) = le_trans (call_blocks s a c) (calls_blocks (left_by s c) (accounted s a c) cs)

calls_far : (s : State) (f : Figures) (a : Account) (cs : List Call) → Far s f a → (ledger s a cs).account.blocks < 2 ^ 46 → (g : Figures) × (line_along s (on f) cs ≡ on g)
unfolding ledger line_along
calls_far s f a [] F l = (f, refl)
calls_far s f a (c ∷ cs) F l =
    let n = call_far s f a c F (lt_of_le_of_lt (calls_blocks (left_by s c) (accounted s a c) cs) l) in
    let r = calls_far (left_by s c) n.0 (accounted s a c) cs n.2 l in
    (r.0, ap (λ (g : Going). line_along (left_by s c) g cs) n.1 ∙ r.1)

-- ---- "no `range` in fewer than 2^46 blocks"
start_line : (s : State) → Start s → started s.index ≡ on (lines.opened (position_of s.index))
start_line s start =
    let i = s.index in
    let m = start_index s start in
    let n = start_number s start in
    check_pass _ _ _ _ _ (start_float s start)
    (inside_of (position_of i) (exact binary64 i) (same_of unit (position_of i) (exact binary64 i) (units_of i m)) (wider (2 ^ 1091) (2 ^ 1137) (exact binary64 i) (lit≤ tt) n.1))

pub live_goes_on : (s : State) → Start s → (cs : List Call) → (ledger s (opened s) cs).account.blocks < 2 ^ 46 → (f : Figures) × (live_line s cs ≡ on f)
live_goes_on s start cs l =
    let f = lines.opened (position_of s.index) in
    let F : Far s f (opened s) = record { kept = start_kept s start; near = opened_near s (start_index s start).double; few = record { frames_few = le_refl 0; inputs_few = le_refl 0 } } in
    let r = calls_far s f (opened s) cs F l in
    (r.0, ap (λ (g : Going). line_along s g cs) (start_line s start) ∙ r.1)
