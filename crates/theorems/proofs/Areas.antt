-- Laws for Block.antt: the areas that a block leaves, by the laws of moving, reading and running in each channel. Assumes nothing.
use mathlib.Core.Bool.{Bool, true, false}
use mathlib.Core.List.{List}
use mathlib.Core.Path.{◌≡◌, refl, sym, ap, ◌∙◌}
use Prim.Native.Nat.{ℕ, suc, ◌+◌, ◌*◌, ◌/◌, ◌≤◌, ◌<◌}
use native.Mathlib.Nat.{le_of_eq, zero-add}
use native.Mathlib.Omega.{arith}
use lib.Dec.{T}
use lib.Ieee.{Float, binary64, fits}
use lib.ListN.{length, get_or, drop}
use lib.Seq.{drop-drop}
use Rattle.error.specs.Refusals.{Said, given, refused}
use Rattle.error.proofs.Ladder.{accepted}
use Rattle.kinds.specs.declared.Kind.{Kind}
use Rattle.kinds.specs.declared.Kind.TheVariants.{Polynomial, Sinc}
use Rattle.kinds.specs.Kinds.{kind_holds}
use Rattle.kinds.proofs.Laws.{sized}
use Rattle.asynchro_fast.proofs.Laws.{before_points}
use Rattle.state.specs.declared.State.{State}
use Rattle.state.specs.Record.{points_in, step_now_of}
use Rattle.state.proofs.Checked.{check_accepted}
use Rattle.channel.specs.Mask.{is_on}
use Rattle.channel.specs.Moves.{moved}
use Rattle.channel.proofs.Moves.{moved_parts, moved_long, moved_front, moved_rest, loaded_parts}
use Rattle.channel.proofs.Switched.{where_on_lem, where_off}
use Rattle.area.specs.Parts.{part_of}
use Rattle.area.specs.Moves.{moved_in, loaded_in, moved_all}
use Rattle.area.proofs.Parts.{Keeps, part_long, length_each, part_each}
use Rattle.area.proofs.Moves.{moved_in_keeps, loaded_in_keeps}
use Rattle.path.specs.Sites.{site_of, reached}
use Rattle.path.proofs.Path.{path_fits, reach_each}
use Rattle.frames.specs.Run.{kernel_at, value_at}
use Rattle.frames.proofs.Run.{ran_long}
use Rattle.frames.proofs.Apart.{run_off, run_frame, run_beyond}
use Rattle.shape.specs.Shape.{read_of, stride_of}
use Rattle.plan.specs.Plan.{increment_of, reach_holds, planned}
use Rattle.shape.proofs.Shape.{Shaped, shaped}
use Rattle.process.specs.declared.Sizes.{Sizes}
use Rattle.process.specs.Block.{Block, work_after, output_after, block_end, block_of}
use Rattle.position.proofs.Accepted.{passed}
use Rattle.theorems.specs.Block.{index_at, FrameAt, Frame, shifted, refreshed}
use Rattle.theorems.proofs.Places.{found}
use Rattle.theorems.proofs.Grids.{grid_framed}

-- an accepted block's areas have their shape
pub shape_of : (s : State) (frames mask table input output work : ℕ) (t : State) → planned s frames mask table input output work ≡ given t → Shaped s frames table input output work
unfolding planned
shape_of s frames mask table input output work t e =
    let p = check_accepted s _ t e in
    shaped s frames mask table input output work p.0 (accepted _ _ _ _ _ p.1).0

-- ---- the working area after moving and reading
module _ (s : State) (frames mask : ℕ) (input work : List Float) (table out : ℕ) (h : Shaped s frames table (length input) out (length work)) where
  room : s.channels * stride_of s ≤ length work
  room = le_of_eq h.long

  abbrev moves : ℕ → List Float → List Float
  moves = moved_in s.fill (2 * points_in s)

  abbrev reads : ℕ → List Float → List Float
  reads = loaded_in mask (2 * points_in s) input (length input / s.channels) 0 (read_of s frames) s.input

  abbrev front : List Float
  front = moved_all s.fill (2 * points_in s) (stride_of s) s.channels work

  moves_keeps : Keeps moves (stride_of s) s.channels
  moves_keeps = moved_in_keeps s.fill (2 * points_in s) (stride_of s) s.channels h.fill_fits

  reads_keeps : Keeps reads (stride_of s) s.channels
  reads_keeps =
      loaded_in_keeps mask (2 * points_in s) input (length input / s.channels) 0 (read_of s frames) s.input (stride_of s) s.channels (le_of_eq h.read_in_lem.whole)
      (rw zero-add h.read_in_lem.enough) h.read_most h.input_fits

  front_long : length front ≡ length work
  front_long = length_each moves (stride_of s) s.channels work moves_keeps room

  front_room : s.channels * stride_of s ≤ length front
  front_room = rw front_long room

  pub work_long : length (work_after s frames mask input 0 work) ≡ length work
  unfolding work_after
  work_long = length_each reads (stride_of s) s.channels front reads_keeps front_room ∙ front_long

  -- a channel's part depends on nothing but that part and the channel's share of the input
  pub work_part : (c : ℕ) → c < s.channels → part_of (stride_of s) c (work_after s frames mask input 0 work)
      ≡ loaded_in mask (2 * points_in s) input (length input / s.channels) 0 (read_of s frames) s.input c (moved_in s.fill (2 * points_in s) c (part_of (stride_of s) c work))
  unfolding work_after
  work_part c l = part_each reads (stride_of s) s.channels front reads_keeps front_room c l ∙ ap (reads c) (part_each moves (stride_of s) s.channels work moves_keeps room c l)

-- ---- a frame in reach, by its kind
framed : (k : Kind) → kind_holds k ≡ true → (needed : ℕ) (x : Float) → T (fits binary64 x) → reached (site_of k needed x) ≡ true
    → (table work : List Float) (y : Float) → y ≡ value_at table work (site_of k needed x) → FrameAt k needed table work x y
unfolding value_at kernel_at
framed (Polynomial degree) h needed x t r table work y e =
    let p = found _ _ x t r in
    record {
      floor = p.floor;
      is = p.is;
      place = p.place;
      begins = omega (arith, p.same, before_points degree);
      ends = omega (arith, p.most);
      value = e ∙ ap (kernel_at degree work) p.at;
    }
framed (Sinc points factor blend) h needed x t r table work y e =
    grid_framed points factor blend needed x table work (omega (arith, (sized points factor h).factor_least)) r y e

module _ (s : State) (frames mask : ℕ) (table input output work : List Float) where
  abbrev shapes : Type 0
  shapes = Shaped s frames (length table) (length input) (length output) (length work)

  abbrev left : Block Sizes
  left = block_of s frames mask table input output work

  abbrev work_then : List Float
  work_then = work_after s frames mask input 0 work

  abbrev output_then : List Float
  output_then = output_after s mask table work_then 0 output

  abbrev output_in : ℕ → List Float → List Float
  output_in c o = part_of (length output / s.channels) c o

  abbrev work_in : ℕ → List Float → List Float
  work_in c w = part_of (stride_of s) c w

  abbrev input_in : ℕ → List Float
  input_in c = part_of (length input / s.channels) c input

  -- what holds of the areas given, and of those that an accepted block leaves, holds of those that every block leaves
  pub every_block : (P : List Float → List Float → Type 0) → P output work → (shapes → P output_then work_then) → P left.output left.work
  every_block P r g = go (planned s frames mask (length table) (length input) (length output) (length work)) refl
    where
      go : (p : Said State) → planned s frames mask (length table) (length input) (length output) (length work) ≡ p
          → P (block_end s frames mask table input output work p).output (block_end s frames mask table input output work p).work
      go (given t) e = g (shape_of s frames mask (length table) (length input) (length output) (length work) t e)
      go (refused n vs) e = r

  -- what holds of what an accepted block leaves
  pub accepted_block : (P : List Float → List Float → Type 0) (u : Sizes) → left.said ≡ given u → (shapes → reach_holds s ≡ true → P output_then work_then) → P left.output left.work
  accepted_block P u a g = go (planned s frames mask (length table) (length input) (length output) (length work)) refl a
    where
      go : (p : Said State) → planned s frames mask (length table) (length input) (length output) (length work) ≡ p → (block_end s frames mask table input output work p).said ≡ given u
          → P (block_end s frames mask table input output work p).output (block_end s frames mask table input output work p).work
      go (refused n vs) q a = absurd (let x : ◌≡◌ {A = ℕ} 0 1 = cc in omega arith)
      go (given t) q a =
          g (shape_of s frames mask (length table) (length input) (length output) (length work) t q) (passed s t frames mask (length table) (length input) (length output) (length work) q).reach

  -- ---- an accepted block's areas
  pub output_long : shapes → length output_then ≡ length output
  unfolding output_after
  output_long h =
      ran_long s.kind table s.input mask work_then (stride_of s) (step_now_of s) (increment_of s) s.index 0 (length output / s.channels) s.output s.channels output
      (rw zero-add h.written_out.enough) (le_of_eq h.written_out.whole)

  module _ (c : ℕ) (l : c < s.channels) where
    pub off_then : shapes → is_on mask c ≡ false → output_in c output_then ≡ output_in c output
    unfolding output_after
    off_then h e =
        run_off s.kind table s.input mask (stride_of s) (step_now_of s) (increment_of s) s.index s.output 0 (length output / s.channels) s.channels
        (rw zero-add h.written_out.enough) work_then output (le_of_eq h.written_out.whole) c l e

    pub beyond_then : shapes → (b : Bool) → is_on mask c ≡ b → drop s.output (output_in c output_then) ≡ drop s.output (output_in c output)
    unfolding output_after
    beyond_then h false e = ap (drop s.output) (off_then h e)
    beyond_then h true e =
        rw zero-add at (run_beyond s.kind table s.input mask (stride_of s) (step_now_of s) (increment_of s) s.index s.output 0 (length output / s.channels) s.channels
        (rw zero-add h.written_out.enough) work_then output (le_of_eq h.written_out.whole) c l e)

    pub work_off_then : shapes → is_on mask c ≡ false → work_in c work_then ≡ shifted s (work_in c work)
    work_off_then h e =
        work_part s frames mask input work (length table) (length output) h c l ∙ where_off (is_on mask c) _ (moved s.fill (2 * points_in s) (work_in c work)) e
        ∙ moved_parts s.fill (2 * points_in s) (work_in c work)

    pub area_then : shapes → is_on mask c ≡ true → work_in c work_then ≡ refreshed s frames (input_in c) (work_in c work)
    area_then h e =
        let l2 = 2 * points_in s in
        let w = work_in c work in
        let m = moved s.fill l2 w in
        let long : length w ≡ stride_of s = part_long (stride_of s) s.channels c work (le_of_eq h.long) l in
        let fits : s.fill + l2 ≤ length w = rw long h.fill_fits in
        let has : read_of s frames ≤ length (input_in c) = rw (part_long (length input / s.channels) s.channels c input (le_of_eq h.read_in_lem.whole) l) h.read_in_lem.enough in
        let holds : l2 + s.input ≤ length m = rw (moved_long s.fill l2 w fits, long) h.input_fits in
        let rest : drop (l2 + s.input) m ≡ drop (l2 + s.input) w = sym (drop-drop s.input l2 m) ∙ ap (drop s.input) (moved_rest s.fill l2 w fits) ∙ drop-drop s.input l2 w in
        work_part s frames mask input work (length table) (length output) h c l
        ∙ where_on_lem (is_on mask c) _ _ e
        ∙ loaded_parts l2 (input_in c) (read_of s frames) s.input m holds h.read_most has
        ∙ rw (moved_front s.fill l2 w fits, rest)

    frame_then : shapes → is_on mask c ≡ true → (f : ℕ) → f < s.output → (z : Float)
        → get_or (output_in c output_then) f z ≡ value_at table (work_in c work_then) (site_of s.kind s.input (index_at s f))
    unfolding output_after
    frame_then h e f k z =
        rw zero-add at (run_frame s.kind table s.input mask (stride_of s) (step_now_of s) (increment_of s) s.index s.output 0 (length output / s.channels) s.channels
        (rw zero-add h.written_out.enough) work_then output (le_of_eq h.written_out.whole) c l e f z k)

    pub frame_is_then : shapes → reach_holds s ≡ true → is_on mask c ≡ true → (f : ℕ) → f < s.output → (z : Float) → Frame s table (work_in c work_then) f (get_or (output_in c output_then) f z)
    frame_is_then h r e f k z =
        framed s.kind h.kind_holds_lem s.input (index_at s f) (path_fits (step_now_of s) (increment_of s) s.index f)
        (reach_each s.kind s.input (step_now_of s) (increment_of s) s.index s.output r (suc f) (omega arith) k)
        table (work_in c work_then) _ (frame_then h e f k z)
