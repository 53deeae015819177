-- Places of interleaved samples in an area. Assumes nothing.
use mathlib.Core.Bool.{Bool, true, false}
use mathlib.Core.List.{List, [], ◌∷◌}
use mathlib.Core.Path.{◌≡◌, refl, sym, ap, ◌∙◌}
use Prim.Native.Nat.{ℕ, zero, suc, ◌+◌, ◌*◌, ◌/◌, ◌%◌, ◌<◌, ◌≤◌}
use native.Mathlib.Nat.{mod-lt, div-lt_iff_lt-mul, mul_comm, div-add-mod', le-mul_of_pos_right, add-mod_right, add-div_right}
use native.Mathlib.Omega.{arith}
use borrow.Author.Tests.{ltb-true, ltb-false}
use lib.Arith.{digits_lt, digits_div, digits_mod}
use lib.Dec.{ltb}
use lib.Ieee.{Float}
use lib.ListN.{length, get_or, set, length-set}
use lib.Seq.{get_or-set_same, get_or-set_other}
use Rattle.samples.specs.Samples.{sample_at}
use Rattle.samples.specs.Frames.{place_of, spread_to}

-- the place lies in the area
module _ (channels share k : ℕ) (some : 0 < channels) (l : k < channels * share) where
  pub frame_in : k / channels < share
  frame_in = (div-lt_iff_lt-mul some).1 (omega (arith, mul_comm channels share))

  pub place_in : place_of channels share k < channels * share
  place_in = digits_lt (mod-lt k some) frame_in

-- where a frame's sample of a channel stands: "channel after channel"
pub place_frame : (channels share f c : ℕ) → c < channels → place_of channels share (f * channels + c) ≡ c * share + f
place_frame channels share f c l = rw (digits_mod f l, digits_div f l)

-- a number that is the place of the sample number k
pub record Placed (channels share k place : ℕ) : Type 0 where
  pub is : place ≡ place_of channels share k

-- the place lies in the area, and the area is no smaller than a frame
pub placed_in : (channels share k place : ℕ) → Placed channels share k place → 0 < channels → k < channels * share → (place < channels * share) × (channels ≤ channels * share)
placed_in channels share k place p some l = (rw p.is (place_in channels share k some l), le-mul_of_pos_right channels (omega (arith, frame_in channels share k some l)))

-- the next frame's sample of the same channel stands in the next place
pub placed_on : (channels share first j place : ℕ) → Placed channels share (first + j) place → 0 < channels → Placed channels share (first + (j + channels)) (place + 1)
placed_on channels share first j place p some =
    let on : first + (j + channels) ≡ first + j + channels = omega arith in
    record { is = rw (p.is, on, add-mod_right (first + j) channels, add-div_right (first + j) some) (omega arith) }

-- two samples have two places
pub places_apart : (channels share j k : ℕ) → 0 < channels → j < channels * share → k < channels * share → place_of channels share j ≡ place_of channels share k → j ≡ k
places_apart channels share j k some lj lk e =
    let fj = frame_in channels share j some lj in
    let fk = frame_in channels share k some lk in
    let channel : j % channels ≡ k % channels = sym (digits_div (j % channels) fj) ∙ ap (λ (n : ℕ). n / share) e ∙ digits_div (k % channels) fk in
    let frame : j / channels ≡ k / channels = sym (digits_mod (j % channels) fj) ∙ ap (λ (n : ℕ). n % share) e ∙ digits_mod (k % channels) fk in
    sym (div-add-mod' j channels) ∙ ap (λ (q : ℕ). q * channels + j % channels) frame ∙ ap (λ (r : ℕ). k / channels * channels + r) channel ∙ div-add-mod' k channels

-- what is read in the area stands there
pub inside : (w : List Float) (p : ℕ) (y z : Float) → p < length w → get_or w p y ≡ get_or w p z
inside [] p y z l = absurd (omega arith)
inside (x ∷ w) zero y z l = refl
inside (x ∷ w) (suc p) y z l = inside w p y z (omega arith)

-- ---- what a reader may ask: each sample that was read stands in its place
length_spread : (channels share first : ℕ) (bs : List ℕ) (w : List Float) (n : ℕ) → length (spread_to channels share first bs w n) ≡ length w
unfolding spread_to
length_spread channels share first bs w zero = refl
length_spread channels share first bs w (suc n) = simp length-set (length_spread channels share first bs w n)

pub spread_get : (channels share first : ℕ) (bs : List ℕ) (w : List Float) (n k : ℕ) (z : Float) → 0 < channels → channels * share ≤ length w → first + n ≤ channels * share → k < n
    → get_or (spread_to channels share first bs w n) (place_of channels share (first + k)) z ≡ sample_at bs (8 * k)
unfolding spread_to
spread_get channels share first bs w zero k z some room fits l = absurd (omega arith)
spread_get channels share first bs w (suc n) k z some room fits l = go (ltb k n) refl (spread_get channels share first bs w n k z some room (omega arith))
  where
    place_n : place_of channels share (first + n) < length (spread_to channels share first bs w n)
    place_n = omega (arith, place_in channels share (first + n) some (omega arith), length_spread channels share first bs w n)

    go : (t : Bool) → ltb k n ≡ t → (k < n → get_or (spread_to channels share first bs w n) (place_of channels share (first + k)) z ≡ sample_at bs (8 * k))
        → get_or (set (spread_to channels share first bs w n) (place_of channels share (first + n)) (sample_at bs (8 * n))) (place_of channels share (first + k)) z ≡ sample_at bs (8 * k)
    go true e h =
        let below = ltb-true k n e in
        get_or-set_other (spread_to channels share first bs w n) (place_of channels share (first + n)) (place_of channels share (first + k)) (sample_at bs (8 * n)) z
        (λ same. omega (arith, places_apart channels share (first + k) (first + n) some (omega arith) (omega arith) same))
        ∙ h below
    go false e h =
        let last : k ≡ n = omega (arith, ltb-false k n e) in
        rw last (get_or-set_same (spread_to channels share first bs w n) (place_of channels share (first + n)) (sample_at bs (8 * n)) z place_n)

-- every other sample stays
pub spread_others : (channels share first : ℕ) (bs : List ℕ) (w : List Float) (n p : ℕ) (z : Float) → ((k : ℕ) → first ≤ k → k < first + n → p ≡ place_of channels share k → ⊥)
    → get_or (spread_to channels share first bs w n) p z ≡ get_or w p z
unfolding spread_to
spread_others channels share first bs w zero p z apart = refl
spread_others channels share first bs w (suc n) p z apart =
    get_or-set_other (spread_to channels share first bs w n) (place_of channels share (first + n)) p (sample_at bs (8 * n)) z
    (λ same. apart (first + n) (omega arith) (omega arith) same)
    ∙ spread_others channels share first bs w n p z (λ k a b e. apart k a (omega arith) e)

-- the sample of the channel c in the frame f of bytes that are read from the start
pub spread_frame : (channels share : ℕ) (bs : List ℕ) (w : List Float) (n f c : ℕ) (z : Float) → c < channels → channels * share ≤ length w → n ≤ channels * share → f * channels + c < n
    → get_or (spread_to channels share 0 bs w n) (c * share + f) z ≡ sample_at bs (8 * (f * channels + c))
spread_frame channels share bs w n f c z l room fits in-n =
    let start : 0 + (f * channels + c) ≡ f * channels + c = omega arith in
    sym (ap (λ (p : ℕ). get_or (spread_to channels share 0 bs w n) p z) (ap (place_of channels share) start ∙ place_frame channels share f c l))
    ∙ spread_get channels share 0 bs w n (f * channels + c) z (omega arith) room (omega arith) in-n
