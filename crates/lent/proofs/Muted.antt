-- What a block on front parts lends of a muted channel is zeros, whatever the areas held before. Assumes nothing.
use mathlib.Core.Bool.{false, true}
use mathlib.Core.List.{List, ◌++◌}
use mathlib.Core.Path.{◌≡◌, refl, sym, ap, ◌∙◌}
use Prim.Native.Nat.{ℕ, ◌+◌, ◌-◌, ◌*◌, ◌/◌, ◌≤◌, ◌<◌}
use native.Mathlib.Nat.{le_of_eq, zero-add, min-le_left, le_antisymm, le_of_mul-le-mul_left}
use native.Mathlib.Omega.{arith}
use lib.Ieee.{Float}
use lib.ListN.{length, take, drop, replicate, length-replicate, length-take, length-drop, replicate-append-replicate}
use lib.Seq.{take_at, drop_at, take-append-le, drop-append-le}
use Rattle.exact.specs.Doubles.{zero_f}
use Rattle.error.specs.Refusals.{Said, given, refused}
use Rattle.error.proofs.Ladder.{accepted}
use Rattle.state.specs.declared.State.{State}
use Rattle.state.specs.Record.{step_now_of, is_state}
use Rattle.state.proofs.Checked.{check_accepted}
use Rattle.state.proofs.Valid.{valid}
use Rattle.channel.specs.Mask.{is_on}
use Rattle.area.specs.Parts.{part_of}
use Rattle.area.proofs.Parts.{room}
use Rattle.frames.proofs.Run.{ran_long}
use Rattle.frames.proofs.Apart.{run_off}
use Rattle.shape.specs.Shape.{stride_of}
use Rattle.plan.specs.Plan.{increment_of, planned}
use Rattle.shape.proofs.Shape.{Shaped, shaped}
use Rattle.process.specs.declared.Sizes.{Sizes}
use Rattle.process.specs.Block.{work_after, output_after, block_end}
use Rattle.lent.specs.Lent.{area_length, work_length, zeros_of, lent_of}
use Rattle.lent.proofs.Lengths.{area_all}

-- ---- parts of zeros
part_same : {A : Type 0} (k share c : ℕ) (x : A) → c * share + share ≤ k → part_of share c (replicate k x) ≡ replicate share x
part_same k share c x h =
    let e : k ≡ c * share + (share + (k - (c * share + share))) = omega arith in
    ap (λ (n : ℕ). part_of share c (replicate n x)) e
    ∙ ap (λ l. part_of share c l) (sym (replicate-append-replicate (c * share) (share + (k - (c * share + share))) x))
    ∙ ap (take share) (drop_at (replicate (c * share) x) (replicate (share + (k - (c * share + share))) x) (c * share) (length-replicate (c * share) x))
    ∙ ap (take share) (sym (replicate-append-replicate share (k - (c * share + share)) x))
    ∙ take_at (replicate share x) (replicate (k - (c * share + share)) x) share (length-replicate share x)

-- a part that lies in the first of two texts
part_front : {A : Type 0} (share c : ℕ) (xs ys : List A) → c * share + share ≤ length xs → part_of share c (xs ++ ys) ≡ part_of share c xs
part_front share c xs ys h =
    ap (take share) (drop-append-le (c * share) xs ys (omega arith))
    ∙ take-append-le share (drop (c * share) xs) ys (simp length-drop (omega arith))

-- an area of at most so many samples whose shares have at least so many frames has just those
share_is : (channels k share : ℕ) → 1 ≤ channels → channels * (k / channels) ≡ k → share ≤ k / channels → k ≤ channels * share → k / channels ≡ share
share_is channels k share a w e m =
    let p : channels * (k / channels) ≤ channels * share = omega arith in
    le_antisymm (le_of_mul-le-mul_left p a) e

module _ (s : State) (frames mask : ℕ) (table input output work : List Float) (c : ℕ) (l : c < s.channels) (off : is_on mask c ≡ false) where
  abbrev most : ℕ
  most = area_length s.channels s.output

  abbrev zeros : List Float
  zeros = zeros_of most output

  abbrev lent_input : List Float
  lent_input = take (area_length s.channels s.input) input

  abbrev lent_work : List Float
  lent_work = take (work_length s) work

  zeros_long : length zeros ≡ length (take most output)
  zeros_long = length-replicate (length (take most output)) zero_f

  zeros_most : is_state s ≡ true → length zeros ≤ s.channels * s.output
  zeros_most h =
      let v = valid s h in
      let m : length (take most output) ≤ most = rw length-take (min-le_left most (length output)) in
      rw (zeros_long, area_all s.channels s.output v.channels_few v.output_few) m

  after : is_state s ≡ true → Shaped s frames (length table) (length lent_input) (length zeros) (length lent_work) → (w : List Float)
      → part_of s.output c (output_after s mask table w 0 zeros ++ drop most output) ≡ replicate s.output zero_f
  unfolding output_after
  after h k w =
      let v = valid s h in
      let o = k.written_out in
      let q : length zeros / s.channels ≡ s.output = share_is s.channels (length zeros) s.output v.channels_some o.whole o.enough (zeros_most h) in
      let whole : s.channels * s.output ≤ length zeros = rw q at (le_of_eq o.whole) in
      let fits = room c s.channels s.output (length zeros) l whole in
      let long : length (output_after s mask table w 0 zeros) ≡ length zeros
      = ran_long s.kind table s.input mask w (stride_of s) (step_now_of s) (increment_of s) s.index 0 (length zeros / s.channels) s.output s.channels zeros
      (rw zero-add o.enough) (le_of_eq o.whole) in
      let stays : part_of (length zeros / s.channels) c (output_after s mask table w 0 zeros) ≡ part_of (length zeros / s.channels) c zeros
      = run_off s.kind table s.input mask (stride_of s) (step_now_of s) (increment_of s) s.index s.output 0 (length zeros / s.channels) s.channels
      (rw zero-add o.enough) w zeros (le_of_eq o.whole) c l off in
      part_front s.output c (output_after s mask table w 0 zeros) (drop most output) (omega arith)
      ∙ (ap (λ (n : ℕ). part_of n c (output_after s mask table w 0 zeros)) (sym q) ∙ stays ∙ ap (λ (n : ℕ). part_of n c zeros) q)
      ∙ part_same (length (take most output)) s.output c zero_f (omega (arith, zeros_long))

  -- "what is lent for a muted channel is zeros": of every accepted block, whatever the areas held
  pub muted_is_zeros : (u : Sizes) → (lent_of s frames mask table input output work).said ≡ given u
      → part_of s.output c (lent_of s frames mask table input output work).output ≡ replicate s.output zero_f
  unfolding lent_of planned
  muted_is_zeros u a = go (planned s frames mask (length table) (length lent_input) (length zeros) (length lent_work)) refl a
    where
      go : (p : Said State) → planned s frames mask (length table) (length lent_input) (length zeros) (length lent_work) ≡ p → (block_end s frames mask table lent_input zeros lent_work p).said ≡ given u
          → part_of s.output c ((block_end s frames mask table lent_input zeros lent_work p).output ++ drop most output) ≡ replicate s.output zero_f
      go (refused n vs) q a = absurd (let x : ◌≡◌ {A = ℕ} 0 1 = cc in omega arith)
      go (given t) q a =
          let p = check_accepted s _ t q in
          after p.0 (shaped s frames mask (length table) (length lent_input) (length zeros) (length lent_work) p.0 (accepted _ _ _ _ _ p.1).0) (work_after s frames mask lent_input 0 lent_work)
