-- A frame that is held, those behind it and the next one. Assumes nothing.
use mathlib.Core.Bool.{Bool, true, false, ◌&&◌, not, true≢false}
use mathlib.Core.List.{List}
use mathlib.Core.Path.{◌≡◌, refl, sym, ap, ◌∙◌}
use Prim.Native.Nat.{ℕ, zero, suc, ◌+◌, ◌*◌, ◌/◌, ◌<◌, ◌≤◌, min}
use native.Mathlib.Nat.{mod-lt, mul-le-mul_left, div-add-mod, div-le_of_le-mul, le-div_iff_mul-le, mul-div_right, mul-mod_right}
use native.Mathlib.Numerals.{add-one}
use native.Mathlib.Omega.{arith}
use borrow.Author.Tests.{ltb-true, ltb-false, leb-true}
use lib.Arith.{digits_lt}
use lib.Dec.{ltb, leb}
use lib.Ieee.{Float}
use lib.ListN.{length, get_or, set, length-set}
use lib.Seq.{get_or-set_same, get_or-set_other}
use Rattle.exact.specs.Doubles.{zero_f}
use Rattle.samples.specs.Counts.{taken}
use Rattle.samples.specs.Frames.{place_of}
use Rattle.samples.proofs.Places.{place_frame, places_apart, inside}
use Rattle.samples.proofs.Products.{small_product}
use Rattle.samples.proofs.Taken.{Fits, taken_fits, both, yes}
use Rattle.blocks.specs.Blocks.{OthersStay, PiecesRead, left_in, held_to, HeldIn, NextRead, FramesRead, fits, goes_on, Unread}

-- ---- the held frame in the area: v is w with the first c samples of h
pub record Puts (share : ℕ) (h w v : List Float) (c : ℕ) : Type 0 where
  pub long : length v ≡ length w
  pub is : v ≡ held_to share h w c

pub puts_none : (share : ℕ) (h w : List Float) → Puts share h w w 0
unfolding held_to
puts_none share h w = record { long = refl; is = refl }

pub puts_next : (share : ℕ) (h w v : List Float) (c : ℕ) (x : Float) → Puts share h w v c → c < length h → Puts share h w (set v (c * share) (get_or h c x)) (c + 1)
unfolding held_to
puts_next share h w v c x p l = record { long = simp length-set p.long; is = rw (p.is, inside h c x zero_f l, add-one c) }

pub puts_done : (share : ℕ) (h w v : List Float) (c n : ℕ) → Puts share h w v c → c ≡ n → v ≡ held_to share h w n
puts_done share h w v c n p e = p.is ∙ ap (held_to share h w) e

-- there is room for a frame
pub frame_room : (channels share : ℕ) → 0 < share → channels ≤ channels * share
frame_room channels share wide = omega (arith, mul-le-mul_left channels wide)

-- a channel's first sample has its place
pub first_place : (channels share c : ℕ) → c < channels → 0 < share → c * share < channels * share
first_place channels share c l s = omega (arith, digits_lt {r = 0} l s)

length_held : (share : ℕ) (h w : List Float) (n : ℕ) → length (held_to share h w n) ≡ length w
unfolding held_to
length_held share h w zero = refl
length_held share h w (suc n) = simp length-set (length_held share h w n)

held_others : (share : ℕ) (h w : List Float) (n p : ℕ) (z : Float) → ((c : ℕ) → c < n → p ≡ c * share → ⊥) → get_or (held_to share h w n) p z ≡ get_or w p z
unfolding held_to
held_others share h w zero p z apart = refl
held_others share h w (suc n) p z apart =
    get_or-set_other (held_to share h w n) (n * share) p (get_or h n zero_f) z (λ same. apart n (omega arith) same) ∙ held_others share h w n p z (λ c l. apart c (omega arith))

held_get : (share : ℕ) (h w : List Float) (n : ℕ) → 0 < share → n * share ≤ length w → HeldIn n share h (held_to share h w n)
unfolding held_to
held_get share h w zero some room c l = absurd (omega arith)
held_get share h w (suc n) some room c l = go (ltb c n) refl (held_get share h w n some (omega (arith, first_place (suc n) share n (omega arith) some)) c)
  where
    go : (t : Bool) → ltb c n ≡ t → (c < n → get_or (held_to share h w n) (c * share) zero_f ≡ get_or h c zero_f) → get_or (set (held_to share h w n) (n * share) (get_or h n zero_f)) (c * share) zero_f ≡ get_or h c zero_f
    go true e f =
        let below = ltb-true c n e in
        get_or-set_other (held_to share h w n) (n * share) (c * share) (get_or h n zero_f) zero_f (λ same. omega (arith, first_place n share c below some, same)) ∙ f below
    go false e f =
        let last : c ≡ n = omega (arith, ltb-false c n e) in
        rw last (get_or-set_same (held_to share h w n) (n * share) (get_or h n zero_f) zero_f (omega (arith, first_place (suc n) share n (omega arith) some, length_held share h w n)))

-- ---- what is left behind whole frames
pub left_few : (channels samples rest : ℕ) → 0 < channels → rest < 8 → left_in channels samples rest < 8 * channels
left_few channels samples rest some r = omega (arith, mod-lt samples some)

none_left : (channels n rest : ℕ) → rest ≡ 0 → left_in channels (channels * n) rest ≡ 0
none_left channels n rest e = omega (arith, mul-mod_right channels n)

-- ---- the next frame, held: an area of one frame
module _ (channels most : ℕ) (full : most ≡ channels) (some : 0 < channels) (over : Bool) (h g : List Float) (s rest : ℕ) (a : Bool) (p : PiecesRead channels 1 most 0 over h g s rest a) where
  next_whole : a ≡ false → left_in channels s rest ≡ 0
  next_whole o =
      let full : s ≡ channels * 1 = omega (arith, (p.whole o).0) in
      ap (λ (n : ℕ). left_in channels n rest) full ∙ none_left channels 1 rest (p.whole o).1

  next_stays : OthersStay channels 1 0 channels h g
  next_stays q z apart = p.stays q z (λ k l u. apart k l (omega (arith, p.high)))

  pub next_read : (left : ℕ) → left ≡ left_in channels s rest → NextRead channels h g (not a) a left
  next_read left e = record { one = refl; few = omega (arith, left_few channels s rest some p.broken); whole = λ o. e ∙ next_whole o; stays = next_stays }

-- ---- a block: the held frame, the samples behind it, and the next frame where the input went on
module _ (channels share : ℕ) (some : 0 < channels) (wide : 0 < share) (w u v h : List Float) (room : channels * share ≤ length w) (put : u ≡ held_to share h w channels)
    (s rest : ℕ) (e : Bool) (p : PiecesRead channels share (channels * share) channels false u v s rest e) where
  first_in : (c : ℕ) → c < channels → place_of channels share c ≡ c * share
  first_in c l =
      let from : 0 * channels + c ≡ c = omega arith in
      sym (ap (place_of channels share) from) ∙ place_frame channels share 0 c l ∙ omega arith

  block_first : HeldIn channels share h v
  block_first c l =
      p.stays (c * share) zero_f
      (λ k a b same. omega (arith, places_apart channels share c k some (omega (arith, frame_room channels share wide)) (omega (arith, p.high)) (first_in c l ∙ same)))
      ∙ ap (λ (x : List Float). get_or x (c * share) zero_f) put ∙ held_get share h w channels wide room c l

  block_some : 0 < s / channels
  block_some = (le-div_iff_mul-le some).1 (omega (arith, p.low))

  block_high : s / channels ≤ share
  block_high = div-le_of_le-mul channels (omega (arith, p.high))

  block_whole : e ≡ false → s / channels ≡ share
  block_whole o = ap (λ (n : ℕ). n / channels) (p.whole o).0 ∙ mul-div_right share some

  reached : s ≤ channels * min share (s / channels + 1)
  reached = go (ltb (s / channels) share) refl
    where
      go : (t : Bool) → ltb (s / channels) share ≡ t → s ≤ channels * min share (s / channels + 1)
      go true o =
          let m : min share (s / channels + 1) ≡ s / channels + 1 = omega (arith, ltb-true (s / channels) share o) in
          let up : channels * (s / channels + 1) ≡ channels * (s / channels) + channels = omega arith in
          rw m (omega (arith, div-add-mod s channels, mod-lt s some, up))
      go false o =
          let m : min share (s / channels + 1) ≡ share = omega (arith, ltb-false (s / channels) share o) in
          rw m (omega (arith, p.high))

  block_stays : OthersStay channels share 0 (channels * min share (s / channels + 1)) w v
  block_stays q z apart =
      p.stays q z (λ k l b. apart k (omega arith) (omega (arith, reached)))
      ∙ ap (λ (x : List Float). get_or x q z) put
      ∙ held_others share h w channels q z (λ c l same. apart c (omega arith) (omega (arith, reached, p.low)) (same ∙ sym (first_in c l)))

  module _ (g : List Float) (s' rest' : ℕ) (a : Bool) (n : PiecesRead channels 1 (channels * 1) 0 e h g s' rest' a) where
    goes : (b : Bool) → e ≡ b → a ≡ false → e ≡ false
    goes true o f = absurd (true≢false (sym (n.none o).0 ∙ f))
    goes false o f = o

    -- of the two one alone has bytes of a broken frame
    both_left : (b : Bool) → e ≡ b → left_in channels s rest + left_in channels s' rest' < 8 * channels
    both_left true o =
        let z : left_in channels s' rest' ≡ 0 = ap (λ (k : ℕ). left_in channels k rest') ((n.none o).1 ∙ omega arith) ∙ none_left channels 0 rest' (n.none o).2 in
        omega (arith, left_few channels s rest some p.broken)
    both_left false o =
        let z : left_in channels s rest ≡ 0 = ap (λ (k : ℕ). left_in channels k rest) (p.whole o).0 ∙ none_left channels share rest (p.whole o).1 in
        omega (arith, left_few channels s' rest' some n.broken)

    none_both : a ≡ false → left_in channels s rest + left_in channels s' rest' ≡ 0
    none_both f =
        let o = goes e refl f in
        let z : left_in channels s rest ≡ 0 = ap (λ (k : ℕ). left_in channels k rest) (p.whole o).0 ∙ none_left channels share rest (p.whole o).1 in
        omega (arith, next_whole channels (channels * 1) (omega arith) some e h g s' rest' a n f)

    frames_here : FramesRead channels share w v h g (s / channels) (not a) a (left_in channels s rest + left_in channels s' rest')
    frames_here = record {
      some = block_some;
      high = block_high;
      whole = λ f. block_whole (goes e refl f);
      first = block_first;
      stays = block_stays;
      next = record { one = refl; few = both_left e refl; whole = none_both; stays = next_stays channels (channels * 1) (omega arith) some e h g s' rest' a n };
    }

    pub frames_read : (frames : ℕ) (held ended : Bool) (left : ℕ) → (frames ≡ s / channels) × (held ≡ not a) × (ended ≡ a) × (left ≡ left_in channels s rest + left_in channels s' rest')
        → FramesRead channels share w v h g frames held ended left
    frames_read frames held ended left q = rw (q.0, q.1, q.2, q.3) frames_here

-- ---- when there is anything to read, by the code's test
module _ (channels share room places : ℕ) (has b : Bool) (e : b ≡ taken channels share room) where
  pub frames_go : not (((b && leb channels places) && has) && ltb 0 share) ≡ false → goes_on channels share room places has ≡ true
  frames_go h = ap (λ (x : Bool). ((x && leb channels places) && has) && ltb 0 share) (sym e) ∙ yes (((b && leb channels places) && has) && ltb 0 share) h

  pub frames_stop : not (((b && leb channels places) && has) && ltb 0 share) ≡ true → goes_on channels share room places has ≡ true → ⊥
  frames_stop h t = true≢false (sym h ∙ ap not (ap (λ (x : Bool). ((x && leb channels places) && has) && ltb 0 share) e ∙ t))

  pub unread_is : (w h : List Float) (frames : ℕ) (held ended failed : Bool) → frames ≡ 0 → held ≡ has → ended ≡ not has → failed ≡ not (b && leb channels places)
      → Unread (fits channels share room places) has w w h h frames held ended failed
  unread_is w h frames held ended failed f k o r = record {
    area = refl;
    frame = refl;
    none = f;
    kept = k;
    over = o;
    refused = r ∙ ap (λ (x : Bool). not (x && leb channels places)) e;
  }

-- what such a block has
pub record Goes (channels share room places : ℕ) : Type 0 where
  pub block : Fits channels share room
  pub small : channels * share ≤ 1048576
  pub frame : channels ≤ places
  pub wide : 0 < share

pub goes_has : (channels share room places : ℕ) (has : Bool) → goes_on channels share room places has ≡ true → Goes channels share room places
goes_has channels share room places has t =
    let a = both (fits channels share room places && has) (ltb 0 share) t in
    let b = both (fits channels share room places) has a.0 in
    let c = both (taken channels share room) (leb channels places) b.0 in
    let f = taken_fits channels share room c.0 in
    record { block = f; small = small_product channels share f.channels_few f.frames_few; frame = leb-true channels places c.1; wide = ltb-true 0 share a.1 }
