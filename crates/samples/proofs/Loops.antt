-- The loops between bytes and an area, in whatever order: reading is `spread_to` and writing `gathered_to`. Assumes nothing.
use mathlib.Core.List.{List, [], ◌∷◌}
use mathlib.Core.Path.{◌≡◌, refl, sym, ap, ◌∙◌}
use Prim.Native.Nat.{ℕ, zero, suc, ◌+◌, ◌*◌, ◌<◌, ◌≤◌, min}
use native.Mathlib.Omega.{arith}
use lib.Ieee.{Float, binary64, to_bits}
use lib.ListN.{length, get_or, set, length-set}
use lib.Seq.{paste, length-paste, set_comm, sets, length-sets, sets-eq}
use Rattle.exact.specs.Doubles.{zero_f}
use Rattle.samples.specs.Samples.{sample_at, bytes_from, eight_of}
use Rattle.samples.specs.Frames.{place_of, spread_to, gathered_to}
use Rattle.samples.proofs.Bytes.{length_bytes}
use Rattle.samples.proofs.Order.{Went, Turn, went_all, turn_next}
use Rattle.samples.proofs.Places.{Placed, places_apart, inside}

-- ---- reading
module _ (channels share first : ℕ) (bs : List ℕ) where
  abbrev pub reading : ℕ → List Float → List Float
  reading k v = set v (place_of channels share (first + k)) (sample_at bs (8 * k))

  module _ (n : ℕ) (some : 0 < channels) (fits : first + n ≤ channels * share) where
    reading_swap : (j k : ℕ) (x : List Float) → j < n → k < n → (j ≡ k → ⊥) → reading j (reading k x) ≡ reading k (reading j x)
    reading_swap j k x a b ne =
        set_comm x (place_of channels share (first + k)) (place_of channels share (first + j)) (sample_at bs (8 * k)) (sample_at bs (8 * j))
        (λ e. ne (omega (arith, places_apart channels share (first + k) (first + j) some (omega arith) (omega arith) e)))

    pub spread_next : (x v : List Float) (p i j : ℕ) (y : Float) → Turn channels reading n x v i j → Placed channels share (first + j) p → y ≡ sample_at bs (8 * j) → j < n
        → Turn channels reading n x (set v p y) i (j + channels)
    spread_next x v p i j y t e f l = rw (e.is, f) (turn_next channels reading n reading_swap (λ k v. simp length-set) x v i j t some l)

    pub spread_done : (w v : List Float) (i : ℕ) → Went channels reading n w v i i → i ≡ min channels n → v ≡ spread_to channels share first bs w n
    unfolding spread_to
    spread_done w v i g e = went_all channels reading n (spread_to channels share first bs w) w v i i refl (λ k l. refl) g some e

-- ---- writing
-- runs of stores that do not meet may change places
set_sets : {A : Type 0} (us l : List A) (i j : ℕ) (a : A) → ((b : ℕ) → b < length us → i ≡ j + b → ⊥) → set (sets l j us) i a ≡ sets (set l i a) j us
set_sets [] l i j a h = refl
set_sets (u ∷ us) l i j a h =
    set_sets us (set l j u) i (suc j) a (λ b m e. h (suc b) (omega arith) (omega arith))
    ∙ ap (λ (r : List _). sets r (suc j) us) (set_comm l j i u a (λ e. h 0 (omega arith) (omega arith)))

sets_swap : {A : Type 0} (vs us l : List A) (i j : ℕ) → ((a b : ℕ) → a < length vs → b < length us → i + a ≡ j + b → ⊥) → sets (sets l i vs) j us ≡ sets (sets l j us) i vs
sets_swap [] us l i j h = refl
sets_swap (v ∷ vs) us l i j h =
    sets_swap vs us (set l i v) (suc i) j (λ a b m n e. h (suc a) b (omega arith) n (omega arith))
    ∙ ap (λ (r : List _). sets r (suc i) vs) (sym (set_sets us l i j v (λ b m e. h 0 b (omega arith) m (omega arith))))

eight_sets : (b : List ℕ) (at n : ℕ) → at + 8 ≤ length b → paste b at (eight_of n) 8 ≡ sets b at (eight_of n)
unfolding bytes_from
eight_sets b at n room = sym (sets-eq (eight_of n) b at room)

module _ (channels share first : ℕ) (w : List Float) where
  abbrev pub bits_of : ℕ → ℕ
  bits_of k = to_bits binary64 (get_or w (place_of channels share (first + k)) zero_f)

  abbrev pub writing : ℕ → List ℕ → List ℕ
  writing k b = sets b (8 * k) (eight_of (bits_of k))

  writing_swap : (n j k : ℕ) (x : List ℕ) → j < n → k < n → (j ≡ k → ⊥) → writing j (writing k x) ≡ writing k (writing j x)
  writing_swap n j k x l m ne =
      sets_swap (eight_of (bits_of k)) (eight_of (bits_of j)) x (8 * k) (8 * j)
      (λ a b p q e. ne (omega (arith, length_bytes (bits_of k) 0 8, length_bytes (bits_of j) 0 8)))

  length_gathered : (bs : List ℕ) (n : ℕ) → 8 * n ≤ length bs → length (gathered_to channels share first w bs n) ≡ length bs
  unfolding gathered_to
  length_gathered bs zero room = refl
  length_gathered bs (suc k) room =
      let long = length_gathered bs k (omega arith) in
      length-paste (gathered_to channels share first w bs k) (8 * k) (eight_of (bits_of k)) 8 (omega arith) (omega (arith, length_bytes (bits_of k) 0 8)) ∙ long

  module _ (n : ℕ) (some : 0 < channels) where
    pub gather_next : (x b b' : List ℕ) (p i j : ℕ) (z : Float) → Turn channels writing n x b i j → Placed channels share (first + j) p
        → b' ≡ paste b (8 * j) (eight_of (to_bits binary64 (get_or w p z))) 8 → j < n → p < length w → 8 * n ≤ length x → Turn channels writing n x b' i (j + channels)
    gather_next x b b' p i j z t e f l h room =
        let value : get_or w p z ≡ get_or w (place_of channels share (first + j)) zero_f = inside w p z zero_f h ∙ ap (λ (q : ℕ). get_or w q zero_f) e.is in
        let same : b' ≡ writing j b = f ∙ ap (λ (y : Float). paste b (8 * j) (eight_of (to_bits binary64 y)) 8) value ∙ eight_sets b (8 * j) (bits_of j) (omega (arith, t.long)) in
        rw same (turn_next channels writing n (writing_swap n) (λ k b. length-sets b (8 * k) (eight_of (bits_of k))) x b i j t some l)

    pub gather_done : (bs b : List ℕ) (i : ℕ) → Went channels writing n bs b i i → i ≡ min channels n → 8 * n ≤ length bs → b ≡ gathered_to channels share first w bs n
    unfolding gathered_to
    gather_done bs b i g e room =
        went_all channels writing n (gathered_to channels share first w bs) bs b i i refl
        (λ k l. eight_sets (gathered_to channels share first w bs k) (8 * k) (bits_of k) (omega (arith, length_gathered bs k (omega arith)))) g some e
