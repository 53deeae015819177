-- What refusal 8's test tells of the lent areas, and that a working area is small. Assumes nothing.
use Rattle.std.specs.Prelude.{Option}
use mathlib.Core.Bool.{Bool, true, ◌&&◌}
use mathlib.Core.Path.{◌≡◌, sym, ap, ◌∙◌}
use Prim.Native.Nat.{ℕ, ◌+◌, ◌*◌, ◌/◌, ◌%◌, ◌≤◌, ◌<◌}
use native.Mathlib.Nat.{mul_comm, mul-div_cancel, mul-le-mul, min-le_right, div-add-mod}
use native.Mathlib.Omega.{arith}
use borrow.Author.Tests.{leb-true, eqb-true}
use lib.Dec.{eqb, leb}
use Rattle.state.specs.declared.State.{State}
use Rattle.sizes.specs.Sizes.{frames_of}
use Rattle.state.specs.Record.{points_in, max_input_of, is_state}
use Rattle.kinds.specs.Kinds.{kind_holds, table_of}
use Rattle.kinds.proofs.Laws.{points_few}
use Rattle.error.proofs.Ladder.{both}
use Rattle.sizes.proofs.Read.{max_small}
use Rattle.state.proofs.Valid.{valid}
use Rattle.channel.specs.Mask.{mask_fits}
use Rattle.shape.specs.Shape.{read_of, stride_of, work_holds, table_holds, share_holds, shape_holds}

-- ---- sizes of the working area, which a usize holds
pub stride_is : (s : State) (z : Option ℕ) (n l : ℕ) → z ≡ max_input_of s → n ≡ frames_of z → l ≡ points_in s → n + 2 * l ≡ stride_of s
stride_is s z n l a b c = rw (b, a, c)

pub stride_small : (s : State) → kind_holds s.kind ≡ true → stride_of s ≤ 66048
stride_small s k = omega (arith, points_few s.kind k, max_small s.fixed (points_in s) s.chunk0 s.original s.m)

pub work_small : (s : State) → is_state s ≡ true → s.channels * stride_of s ≤ 16 * 66048
work_small s h = mul-le-mul (valid s h).channels_few (stride_small s (valid s h).kind_holds_lem)

-- of a working area of the right length, a channel's samples are its share
pub stride_share : (s : State) (work n : ℕ) → 0 < s.channels → s.channels * stride_of s ≡ work → n ≡ work / s.channels → n ≡ stride_of s
stride_share s work n h e r = r ∙ ap (λ (k : ℕ). k / s.channels) (sym e ∙ mul_comm s.channels (stride_of s)) ∙ mul-div_cancel (stride_of s) h

-- ---- one share of a lent area
pub record Shared (channels area frames : ℕ) : Type 0 where
  pub whole : channels * (area / channels) ≡ area
  pub enough : frames ≤ area / channels

pub shared : (s : State) (area frames : ℕ) → share_holds s area frames ≡ true → Shared s.channels area frames
shared s area frames h =
    let b = both (eqb (area % s.channels) 0) (leb frames (area / s.channels)) h in
    record {
      whole = omega (arith, eqb-true (area % s.channels) 0 b.0, div-add-mod area s.channels);
      enough = leb-true frames (area / s.channels) b.1;
    }

-- ---- the three areas of a block
pub shape_is : (s : State) (frames mask table input output work read : ℕ) (a b c g d : Bool) → read ≡ read_of s frames → a ≡ share_holds s input read → b ≡ share_holds s output s.output
    → c ≡ work_holds s work → g ≡ table_holds s table → d ≡ mask_fits mask s.channels → (a && b && c && g && d) ≡ shape_holds s frames mask table input output work
shape_is s frames mask table input output work read a b c g d r e f h k l = rw (e, f, h, k, l, r)

pub record Shaped (s : State) (frames table input output work : ℕ) : Type 0 where
  pub kind_holds_lem : kind_holds s.kind ≡ true
  pub table_long : table ≡ table_of s.kind
  pub channels_few : s.channels ≤ 16
  pub input_few : s.input ≤ 65536
  pub read_in_lem : Shared s.channels input (read_of s frames)
  pub read_most : read_of s frames ≤ s.input
  pub written_out : Shared s.channels output s.output
  pub long : s.channels * stride_of s ≡ work
  pub fill_fits : s.fill + 2 * points_in s ≤ stride_of s
  pub input_fits : 2 * points_in s + s.input ≤ stride_of s

pub shaped : (s : State) (frames mask table input output work : ℕ) → is_state s ≡ true → shape_holds s frames mask table input output work ≡ true → Shaped s frames table input output work
shaped s frames mask table input output work h k =
    let v = valid s h in
    let b4 = both _ _ k in
    let b3 = both (share_holds s input (read_of s frames) && share_holds s output s.output && work_holds s work) (table_holds s table) b4.0 in
    let b2 = both (share_holds s input (read_of s frames) && share_holds s output s.output) (work_holds s work) b3.0 in
    let b1 = both (share_holds s input (read_of s frames)) (share_holds s output s.output) b2.0 in
    record {
      kind_holds_lem = v.kind_holds_lem;
      table_long = eqb-true table (table_of s.kind) b3.1;
      channels_few = v.channels_few;
      input_few = v.input_few;
      read_in_lem = shared s input (read_of s frames) b1.0;
      read_most = min-le_right frames s.input;
      written_out = shared s output s.output b1.1;
      long = sym (eqb-true work (s.channels * stride_of s) b2.1);
      fill_fits = omega (arith, v.fill_most);
      input_fits = omega (arith, v.input_most);
    }

-- ---- what the second pass asks; stride, l and read are what the code worked out, and `long` is the working area's length after each step
module _ (s : State) (frames table input output work : ℕ) (z : Shaped s frames table input output work) (stride l : ℕ) (a : stride ≡ stride_of s) (b : l ≡ points_in s) where
  pub move_asks : (long : ℕ) → long ≡ work → (s.channels * stride ≡ long) × (s.fill + 2 * l ≤ stride)
  move_asks long e = rw (a, b, e) (z.long, z.fill_fits)

  pub load_asks : (long at read : ℕ) → long ≡ work → at ≡ 0 → read ≡ read_of s frames
      → ((s.channels * stride ≡ long) × (s.channels * (input / s.channels) ≤ input) × (s.channels ≤ 64))
      × ((at + read ≤ input / s.channels) × (read ≤ s.input) × (2 * l + s.input ≤ stride))
  load_asks long at read e f g =
      rw (a, b, e, f, g) ((z.long, omega (arith, z.read_in_lem.whole), omega (arith, z.channels_few)), (omega (arith, z.read_in_lem.enough), z.read_most, z.input_fits))

  pub run_asks : (long to : ℕ) → long ≡ work → to ≡ 0
      → ((kind_holds s.kind ≡ true) × (table ≡ table_of s.kind))
      × (((s.input ≤ 65536) × (s.channels ≤ 16))
      × (((s.channels * stride ≡ long) × (s.channels * (output / s.channels) ≡ output))
      × ((to + s.output ≤ output / s.channels) × (2 * points_in s + s.input ≤ stride))))
  run_asks long to e f =
      rw (a, e, f) ((z.kind_holds_lem, z.table_long), ((z.input_few, z.channels_few), ((z.long, z.written_out.whole), (omega (arith, z.written_out.enough), z.input_fits))))
