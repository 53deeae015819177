-- Laws for Reach.antt: every index of a block is a number, also where it runs out of reach; and Reach's test fails just where some frame's samples lie outside. Assumes nothing.
use mathlib.Core.Bool.{Bool, true, false, ◌&&◌, true≢false}
use mathlib.Core.Path.{◌≡◌, refl, sym, ap, ◌∙◌, subst}
use Prim.Native.Nat.{ℕ, zero, suc, ◌+◌, ◌*◌, ◌^◌, ◌≤◌, ◌<◌}
use native.Mathlib.Nat.{le_trans, mul-le-mul_right}
use native.Mathlib.Omega.{arith}
use borrow.Author.Tests.{le-leb}
use lib.Dec.{T, lit≤}
use lib.Ieee.{Float, binary64, fits}
use lib.Pow.{pow-add}
use Rattle.exact.specs.Doubles.{◌-f◌, ◌/f◌, count}
use Rattle.exact.specs.Whole.{Whole, ◌⊕◌, ◌⊙◌, Below, Within, Room}
use Rattle.exact.specs.Exact.{exact, Number}
use Rattle.exact.specs.Rounding.{slack}
use Rattle.exact.specs.Running.{run, walk}
use Rattle.exact.proofs.Whole.{room_between}
use Rattle.exact.proofs.Sums.{add_near}
use Rattle.whole.specs.Small.{small}
use Rattle.whole.proofs.Small.{is_small}
use Rattle.interpolation.specs.Grid.{in_range}
use Rattle.kinds.specs.declared.Kind.{Kind}
use Rattle.kinds.specs.declared.Kind.TheVariants.{Polynomial, Sinc}
use Rattle.kinds.specs.Kinds.{sinc_holds, kind_holds}
use Rattle.kinds.proofs.Laws.{sized}
use Rattle.state.specs.declared.State.{State}
use Rattle.state.specs.Record.{step_now_of, step_then_of, is_state}
use Rattle.state.proofs.Valid.{valid}
use Rattle.path.specs.Path.{path_at}
use Rattle.path.specs.Places.{place_of, is_at, shift_of, last_of}
use Rattle.path.specs.Sites.{site_of, reached, all_reach}
use Rattle.path.proofs.Bounds.{place_iff}
use Rattle.path.proofs.Path.{path_fits}
use Rattle.plan.specs.Plan.{increment_of, reach_holds}
use Rattle.plan.proofs.Planned.{increment_some}
use Rattle.position.proofs.Tests.{holds, Double, index_of}
use Rattle.position.proofs.Steps.{Pace, Step, step_now, step_then, increment_near, steps_near}
use Rattle.position.proofs.Path.{path_index}
use Rattle.theorems.specs.Block.{index_at, OutsideAt, SomeOutside}
use Rattle.theorems.proofs.Each.{first_hold, some_fails, fails_some}
use Rattle.theorems.proofs.Places.{floor_of_lem, out_apart, out_else}
use Rattle.theorems.proofs.Grids.{grid_outside, outside_grid}

-- ---- Reach is a row of tests, one for each frame
module _ (kind : Kind) (needed : ℕ) (t d i : Float) where
  abbrev reached_at : ℕ → Bool
  reached_at f = reached (site_of kind needed (path_at t d i (suc f)).index)

  reach_row : (n : ℕ) → all_reach kind needed t d i n ≡ first_hold reached_at n
  unfolding all_reach
  reach_row zero = refl
  reach_row (suc n) = ap (λ (b : Bool). b && reached_at n) (reach_row n)

-- ---- every index of a block is a number, also where it runs out of reach. In units of 2 ^ -1074, over h, which is 2 ^ -46
step_first : (h : ℕ) (t : Whole) → Pace h t → Room (2 ^ 10 * (2 ^ 46 * h)) (2 ^ 46 * h) t
step_first h t a = omega arith

step_last : (h n : ℕ) (x u : Whole) → Pace h u → n ≤ 65536 → Within (n * (2 * h) + 2 * h) x u → Room (2 ^ 10 * (2 ^ 46 * h)) (2 ^ 46 * h) x
step_last h n x u b l w = omega (arith, mul-le-mul_right h l)

step_below : (h j : ℕ) (r x : Whole) → j ≤ 65536 → Within (j * (2 * h)) r x → Room (2 ^ 10 * (2 ^ 46 * h)) (2 ^ 46 * h) x → Below (2 ^ 10 * (2 ^ 46 * h)) r
step_below h j r x l w m = omega (arith, mul-le-mul_right h l)

start : (U : ℕ) (v : Whole) → Below (131072 * U) v → Below ((131072 + 0 * 2048) * U) v
start U v h = omega arith

sum_below : (U j : ℕ) (x r : Whole) → 0 < U → j ≤ 65536 → Below ((131072 + j * 2048) * U) x → Below (2 ^ 10 * U) r → Below (2 ^ 28 * U) (x ⊕ r)
sum_below U j x r p l a b = omega (arith, mul-le-mul_right U l)

sum_next : (U e j : ℕ) (x r y : Whole) → e ≤ U → Below ((131072 + j * 2048) * U) x → Below (2 ^ 10 * U) r → Within e y (x ⊕ r) → Below ((131072 + suc j * 2048) * U) y
sum_next U e j x r y l a b w = omega arith

module _ (t u i : Float) (a : Step t) (b : Step u) (p : Number binary64 i) (q : Below (2 ^ 1091) (exact binary64 i)) (n : ℕ) (some : 0 < n) (few : n ≤ 65536) where
  abbrev inc : Float
  inc = (u -f t) /f count n

  step_stays : (j : ℕ) → j ≤ n → Number binary64 (run binary64 j t inc) × Below (2 ^ 10 * 2 ^ 1074) (exact binary64 (run binary64 j t inc))
  step_stays j l =
      let v = exact binary64 t in
      let d = exact binary64 inc in
      let r = steps_near t u a b n some few j l in
      let m = room_between (2 ^ 10 * (2 ^ 46 * 2 ^ 1028)) (2 ^ 46 * 2 ^ 1028) j n v d l (step_first (2 ^ 1028) v a.pace)
      (step_last (2 ^ 1028) n (v ⊕ n ⊙ d) (exact binary64 u) b.pace few (increment_near t u a b n some few).1) in
      (r.0, step_below (2 ^ 1028) j (exact binary64 (run binary64 j t inc)) (v ⊕ j ⊙ d) (le_trans l few) r.1 m)

  walk_stays : (j : ℕ) → j ≤ n → Number binary64 (walk binary64 j i t inc) × Below ((131072 + j * 2048) * 2 ^ 1074) (exact binary64 (walk binary64 j i t inc))
  unfolding walk
  walk_stays zero l = (p, start (2 ^ 1074) (exact binary64 i) q)
  walk_stays (suc j) l =
      let w = walk_stays j (omega arith) in
      let r = step_stays (suc j) l in
      let x = exact binary64 (walk binary64 j i t inc) in
      let v = exact binary64 (run binary64 (suc j) t inc) in
      let s = add_near binary64 28 (walk binary64 j i t inc) (run binary64 (suc j) t inc) w.0 r.0 (lit≤ tt) (sum_below (2 ^ 1074) j x v (lit≤ tt) (omega arith) w.1 r.1) in
      (s.0, sum_next (2 ^ 1074) (slack binary64 28) j x v (exact binary64 (walk binary64 (suc j) i t inc)) (lit≤ tt) w.1 r.1 s.1)

-- ---- so it is small enough for the grid functions
index_small : (U j : ℕ) (x : Whole) → j ≤ 65536 → Below ((131072 + j * 2048) * U) x → Below (2 ^ 52 * U) x
index_small U j x l h = omega (arith, mul-le-mul_right U l)

module _ (s : State) (q : Double s.index) (h : is_state s ≡ true) (f : ℕ) (l : f < s.output) where
  index_held : Number binary64 (index_at s f) × (small (index_at s f) ≡ true)
  index_held =
      let v = valid s h in
      let x = index_of s.index q (holds v.index_inside) in
      let inc = (step_then_of s -f step_now_of s) /f count s.output in
      let y = walk binary64 (suc f) s.index (step_now_of s) inc in
      let w = walk_stays (step_now_of s) (step_then_of s) s.index (step_now s h) (step_then s h) x.0 x.1 s.output (omega arith) v.output_few (suc f) l in
      let b = index_small (2 ^ 1074) (suc f) (exact binary64 y) (omega (arith, v.output_few)) w.1 in
      let e : y ≡ index_at s f = sym (path_index (step_now_of s) inc s.index (suc f))
      ∙ ap (λ (d : Float). (path_at (step_now_of s) d s.index (suc f)).index) (increment_some s (step_now_of s) (step_then_of s) (count s.output) (λ z. omega arith) refl refl refl) in
      subst (λ (z : Float). Number binary64 z × (small z ≡ true)) e
      (w.0, is_small y w.0 (subst (λ (B : ℕ). Below B (exact binary64 y)) (sym (pow-add 2 52 1074)) b))

  pub index_range : (points factor : ℕ) → sinc_holds points factor ≡ true → in_range 3 (index_at s f) factor ≡ true
  index_range points factor k = let z = sized points factor k in rw (index_held.1, le-leb 3 factor z.factor_least, le-leb factor 1048576 (omega (arith, z.factor_most)))

-- ---- a frame is out of reach just where its samples lie outside, for each kind
module _ (needed : ℕ) (x : Float) where
  outside_of : (k : Kind) → T (fits binary64 x) → Number binary64 x → ((points factor : ℕ) → sinc_holds points factor ≡ true → in_range 3 x factor ≡ true) → kind_holds k ≡ true
      → reached (site_of k needed x) ≡ false → OutsideAt k needed x
  outside_of (Polynomial degree) t n r h e =
      let k = floor_of_lem x n in
      record { floor = k.0; is = k.1; out = out_else degree needed x k.0 k.1 (λ z. true≢false (sym ((place_iff (shift_of degree) (last_of degree needed) x t).1 z) ∙ e)) }
  outside_of (Sinc points factor blend) t n r h e = grid_outside points factor blend needed x (r points factor h) e

  outside_not : (k : Kind) → T (fits binary64 x) → OutsideAt k needed x → reached (site_of k needed x) ≡ false
  outside_not (Polynomial degree) t o = go (is_at (place_of (shift_of degree) (last_of degree needed) x)) refl
    where
      go : (b : Bool) → is_at (place_of (shift_of degree) (last_of degree needed) x) ≡ b → b ≡ false
      go false e = refl
      go true e = absurd (out_apart degree needed x o.floor o.is o.out ((place_iff (shift_of degree) (last_of degree needed) x t).0 e))
  outside_not (Sinc points factor blend) t o = outside_grid points factor blend needed x o

-- ---- Reach's test fails just where some frame's samples lie outside
pub some_outside : (s : State) → Double s.index → is_state s ≡ true → reach_holds s ≡ false → SomeOutside s
some_outside s q h e =
    let row = reached_at s.kind s.input (step_now_of s) (increment_of s) s.index in
    let o = some_fails row s.output (sym (reach_row s.kind s.input (step_now_of s) (increment_of s) s.index s.output) ∙ e) in
    let f = o.0 in
    (f, o.1, outside_of s.input (index_at s f) s.kind (path_fits (step_now_of s) (increment_of s) s.index f) (index_held s q h f o.1).0 (index_range s q h f o.1) (valid s h).kind_holds_lem o.2)

pub outside_some : (s : State) → SomeOutside s → reach_holds s ≡ false
outside_some s (f, l, o) =
    reach_row s.kind s.input (step_now_of s) (increment_of s) s.index s.output
    ∙ fails_some (reached_at s.kind s.input (step_now_of s) (increment_of s) s.index) s.output f l (outside_not s.input (index_at s f) s.kind (path_fits (step_now_of s) (increment_of s) s.index f) o)
