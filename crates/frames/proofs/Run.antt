-- One frame in all channels, and the run: what holds after so many channels and frames. Assumes nothing.
use mathlib.Core.Bool.{Bool, true, false}
use mathlib.Core.List.{List, ◌++◌}
use mathlib.Core.Path.{◌≡◌, refl, sym, ◌∙◌}
use Prim.Native.Nat.{ℕ, suc, ◌+◌, ◌-◌, ◌*◌, ◌≤◌, ◌<◌}
use native.Mathlib.Numerals.{add-one}
use native.Mathlib.Omega.{arith}
use lib.Ieee.{Float}
use lib.ListN.{length, take, drop, set, length-append, length-drop, length-set}
use lib.Seq.{paste, paste-zero, length-paste, length-take-le}
use Rattle.kinds.specs.declared.Kind.{Kind}
use Rattle.area.specs.Parts.{part_of}
use Rattle.channel.specs.Mask.{is_on, where_on}
use Rattle.channel.proofs.Switched.{where_long, where_same}
use Rattle.area.proofs.Parts.{Keeps, part_long, length_each, each_none, each_same, each_each}
use Rattle.area.proofs.Parted.{Parted, parted_next, lent_is, lent_long, given_back}
use Rattle.path.specs.declared.Moment.{Moment}
use Rattle.path.specs.declared.Site.{Site}
use Rattle.path.specs.Path.{step_index, path_at}
use Rattle.path.specs.Sites.{site_of}
use Rattle.frames.specs.Run.{value_at, frames_to, ran_in, ran_all}
use Rattle.frames.specs.Turns.{on_in, one_frame, wrote_all}
use Rattle.path.proofs.Path.{path_next}
use Rattle.frames.proofs.Frames.{frame_of, frames_long, frame_next}

-- ---- one frame in all channels
-- in a switched-on one
pub written : (on : Bool) (o : List Float) (k : ℕ) (v w : Float) → on ≡ true → v ≡ w → set o k v ≡ where_on on (set o k w) o
written on o k v w e h = rw (e, h)

-- a write that keeps a share as long as it was keeps every share so
module _ (mask : ℕ) (work : List Float) (stride : ℕ) (write : List Float → List Float → List Float) (share : ℕ) (long : (w o : List Float) → length o ≡ share → length (write w o) ≡ share) where
  pub on_keeps : (channels : ℕ) → Keeps (on_in mask work stride write) share channels
  on_keeps channels c l o e = where_long (is_on mask c) (write (part_of stride c work) o) o share (long (part_of stride c work) o e) e

  -- one channel more, whose shares of both areas were lent
  pub on_next : (out₀ out ys : List Float) (c : ℕ) (on : Bool) → Parted (on_in mask work stride write) share out₀ out c → c * share + share ≤ length out₀
      → on ≡ is_on mask c
      → ys ≡ where_on on (write (take (c * stride + stride - c * stride) (drop (c * stride) work)) (take (c * share + share - c * share) (drop (c * share) out)))
      (take (c * share + share - c * share) (drop (c * share) out))
      → Parted (on_in mask work stride write) share out₀ (take (c * share) out ++ (ys ++ drop (c * share + share - c * share) (drop (c * share) out))) (c + 1)
  on_next out₀ out ys c on r h e y =
      let g = on_in mask work stride write in
      let lent = take (c * share + share - c * share) (drop (c * share) out) in
      let is : ys ≡ g c lent = rw (lent_is (c * stride) stride work, e) at y in
      let fits : c * share + share ≤ length out = omega (arith, h, r.long) in
      let n : length ys ≡ share = rw is (on_keeps (suc c) c (omega arith) lent (lent_long (c * share) share out fits)) in
      let j : c * share + share - c * share ≡ share = omega arith in
      parted_next g share out₀ out _ c r h
      (rw j (simp (length-append, length-drop, length-take-le (c * share) out (omega arith)) (omega (arith, fits, n))))
      (given_back g share c out ys is)

pub frame_long : (table : List Float) (site : Site) (k share : ℕ) (w o : List Float) → length o ≡ share → length (one_frame table site k w o) ≡ share
frame_long table site k share w o e = length-set o k (value_at table w site) ∙ e

-- ---- the frames of all channels
module _ (kind : Kind) (table : List Float) (needed mask : ℕ) (work : List Float) (stride : ℕ) (t d i : Float) (at share : ℕ) where
  -- a share stays as long as it was
  pub ran_keeps : (n channels : ℕ) → at + n ≤ share → Keeps (ran_in kind table needed mask work stride t d i n at) share channels
  ran_keeps n channels h c l o e =
      let a = frames_to kind table needed (part_of stride c work) t d i n in
      where_long (is_on mask c) (paste o at a n) o share (length-paste o at a n (omega arith) (rw frames_long (omega arith)) ∙ e) e

  pub ran_long : (n channels : ℕ) (out : List Float) → at + n ≤ share → channels * share ≤ length out
      → length (ran_all kind table needed mask work stride t d i n at share channels out) ≡ length out
  ran_long n channels out h k = length_each (ran_in kind table needed mask work stride t d i n at) share channels out (ran_keeps n channels h) k

  -- one frame more in the channel c
  turn : (f c : ℕ) (o : List Float) → at + f < length o
      → on_in mask work stride (one_frame table (site_of kind needed (path_at t d i (suc f)).index) (at + f)) c (ran_in kind table needed mask work stride t d i f at c o)
      ≡ ran_in kind table needed mask work stride t d i (suc f) at c o
  turn f c o h = go (is_on mask c)
    where
      w : List Float
      w = part_of stride c work

      go : (b : Bool) → where_on b (set (where_on b (paste o at (frames_to kind table needed w t d i f) f) o) (at + f) (frame_of kind table needed w t d i f)) (where_on b (paste o at (frames_to kind table needed w t d i f) f) o)
          ≡ where_on b (paste o at (frames_to kind table needed w t d i (suc f)) (suc f)) o
      go true = frame_next kind table needed w t d i o at f h
      go false = refl

-- ---- the run: what holds after f frames
pub record Ran (kind : Kind) (table : List Float) (needed mask : ℕ) (work : List Float) (stride : ℕ) (t d i : Float) (at share channels : ℕ) (out₀ out : List Float) (moment : Moment) (f : ℕ) : Type 0 where
  pub long : length out ≡ length out₀
  pub along : moment ≡ path_at t d i f
  pub is : out ≡ ran_all kind table needed mask work stride t d i f at share channels out₀

module _ (kind : Kind) (table : List Float) (needed mask : ℕ) (work : List Float) (stride : ℕ) (t d i : Float) (at share channels : ℕ) (out₀ : List Float) where
  pub ran_none : Ran kind table needed mask work stride t d i at share channels out₀ out₀ (record { index = i; step = t }) 0
  unfolding path_at
  ran_none =
      record {
        long = refl;
        along = refl;
        is =
            sym (each_none (ran_in kind table needed mask work stride t d i 0 at) share channels out₀
            (λ c l. let o = part_of share c out₀ in where_same (is_on mask c) _ o (sym (paste-zero o at (frames_to kind table needed (part_of stride c work) t d i 0)))));
      }

  pub ran_next : (out out' : List Float) (moment moment' : Moment) (site : Site) (f : ℕ) → Ran kind table needed mask work stride t d i at share channels out₀ out moment f
      → channels * share ≤ length out₀ → at + f < share → length out' ≡ length out → moment' ≡ step_index d moment → site ≡ site_of kind needed moment'.index
      → out' ≡ wrote_all table mask work stride site (at + f) share channels out
      → Ran kind table needed mask work stride t d i at share channels out₀ out' moment' (f + 1)
  ran_next out out' moment moment' site f r h k l e q w =
      let m = path_next t d i moment moment' f r.along e in
      let n : moment' ≡ path_at t d i (suc f) = rw add-one at m in
      let u : site ≡ site_of kind needed (path_at t d i (suc f)).index = rw n at q in
      let g = ran_in kind table needed mask work stride t d i f at in
      let v = on_in mask work stride (one_frame table (site_of kind needed (path_at t d i (suc f)).index) (at + f)) in
      record {
        long = l ∙ r.long;
        along = m;
        is =
            rw (w, r.is, u, add-one) (
            each_each g share channels out₀ (ran_keeps kind table needed mask work stride t d i at share f channels (omega arith)) h v
            ∙ each_same (λ c o. v c (g c o)) (ran_in kind table needed mask work stride t d i (suc f) at) share channels out₀
            (λ c j. turn kind table needed mask work stride t d i at share f c (part_of share c out₀) (rw (part_long share channels c out₀ h j) k)));
      }

  pub ran_done : (out : List Float) (moment : Moment) (f n : ℕ) → Ran kind table needed mask work stride t d i at share channels out₀ out moment f → f ≡ n
      → out ≡ ran_all kind table needed mask work stride t d i n at share channels out₀
  ran_done out moment f n r e = rw (← e) r.is
