-- How far a piece goes, and which samples it reaches. Definitions only.
use Rattle.std.specs.Prelude.{Bool, true, false, ◌&&◌, ◌||◌, not, List, ◌≡◌, ℕ, zero, suc, ◌+◌, ◌*◌, ◌%◌, ◌<◌, ◌≤◌, min, eqb, ltb, leb, Float, get_or, set}
use Rattle.exact.specs.Doubles.{zero_f}
use Rattle.samples.specs.Counts.{taken, up_to}
use Rattle.samples.specs.Frames.{place_of}

-- v has other samples than w in the places of the samples number `first` up to `last` alone
abbrev pub OthersStay : ℕ → ℕ → ℕ → ℕ → List Float → List Float → Type 0
OthersStay channels share first last w v =
    (p : ℕ) (z : Float) → ((k : ℕ) → first ≤ k → k < last → p ≡ place_of channels share k → ⊥) → get_or v p z ≡ get_or w p z

-- a piece behind `done` samples: fewer than the buffer holds, or a broken one, only where the input has ended
pub record PieceRead (size channels share most done : ℕ) (w v : List Float) (samples rest : ℕ) (ended : Bool) : Type 0 where
  pub low : done ≤ samples
  pub high : samples ≤ up_to size done most
  pub broken : rest < 8
  pub whole : ended ≡ false → (samples ≡ up_to size done most) × (rest ≡ 0)
  pub stays : OthersStay channels share done samples w v

-- the samples behind `done` up to `most`: fewer only where the input has ended, and none where it was over
pub record PiecesRead (channels share most done : ℕ) (over : Bool) (w v : List Float) (samples rest : ℕ) (ended : Bool) : Type 0 where
  pub low : done ≤ samples
  pub high : samples ≤ most
  pub broken : rest < 8
  pub whole : ended ≡ false → (samples ≡ most) × (rest ≡ 0)
  pub none : over ≡ true → (ended ≡ true) × (samples ≡ done) × (rest ≡ 0)
  pub stays : OthersStay channels share done samples w v

-- `RIFF`, `RIFX` or `RF64` at the front
abbrev pub riff_mark : List ℕ → Bool
riff_mark bs =
    eqb (get_or bs 0 0) 82
    && (((eqb (get_or bs 1 0) 73 && eqb (get_or bs 2 0) 70) && (eqb (get_or bs 3 0) 70 || eqb (get_or bs 3 0) 88)) || ((eqb (get_or bs 1 0) 70 && eqb (get_or bs 2 0) 54) && eqb (get_or bs 3 0) 52))

-- the bytes behind the last whole frame
abbrev pub left_in : ℕ → ℕ → ℕ → ℕ
left_in channels samples rest = 8 * (samples % channels) + rest

-- w with the first n samples of the frame h as the first ones of its channels
unfoldable pub held_to : ℕ → List Float → List Float → ℕ → List Float
held_to share h w zero = w
held_to share h w (suc c) = set (held_to share h w c) (c * share) (get_or h c zero_f)

-- the frame h stands in the area v as its first one
abbrev pub HeldIn : ℕ → ℕ → List Float → List Float → Type 0
HeldIn channels share h v = (c : ℕ) → c < channels → get_or v (c * share) zero_f ≡ get_or h c zero_f

-- the frame that is held: there is one unless the input has ended, of which less than a frame may be left
pub record NextRead (channels : ℕ) (h g : List Float) (held ended : Bool) (left : ℕ) : Type 0 where
  pub one : held ≡ not ended
  pub few : left < 8 * channels
  pub whole : ended ≡ false → left ≡ 0
  pub stays : OthersStay channels 1 0 channels h g

-- w became v, and the held frame h became g: the frames, of which the held one is the first, fewer than `share` only where the input has ended,
-- and a broken one behind them
pub record FramesRead (channels share : ℕ) (w v h g : List Float) (frames : ℕ) (held ended : Bool) (left : ℕ) : Type 0 where
  pub some : 0 < frames
  pub high : frames ≤ share
  pub whole : ended ≡ false → frames ≡ share
  pub first : HeldIn channels share h v
  pub stays : OthersStay channels share 0 (channels * min share (frames + 1)) w v
  pub next : NextRead channels h g held ended left

-- a block and a frame that have their places
abbrev pub fits : ℕ → ℕ → ℕ → ℕ → Bool
fits channels share room places = taken channels share room && leb channels places

-- when there is anything to read
abbrev pub goes_on : ℕ → ℕ → ℕ → ℕ → Bool → Bool
goes_on channels share room places has = (fits channels share room places && has) && ltb 0 share

-- nothing was read, and a frame that was held still is
pub record Unread (places has : Bool) (w v h g : List Float) (frames : ℕ) (held ended failed : Bool) : Type 0 where
  pub area : v ≡ w
  pub frame : g ≡ h
  pub none : frames ≡ 0
  pub kept : held ≡ has
  pub over : ended ≡ not has
  pub refused : failed ≡ not places
