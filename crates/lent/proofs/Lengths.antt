-- How long the lent parts are, by the tests that the code makes. Assumes nothing.
use mathlib.Core.Bool.{true, false}
use mathlib.Core.Path.{◌≡◌}
use Prim.Native.Nat.{ℕ, ◌*◌, ◌<◌, ◌≤◌}
use borrow.Author.Tests.{le-leb, lt-leb}
use Rattle.state.specs.declared.State.{State}
use Rattle.state.specs.Record.{is_state}
use Rattle.shape.specs.Shape.{stride_of}
use Rattle.shape.proofs.Shape.{work_small}
use Rattle.lent.specs.Lent.{area_length, work_length}

module _ (channels frames : ℕ) where
  pub area_channels : 16 < channels → 0 ≡ area_length channels frames
  unfolding area_length
  area_channels h = rw (lt-leb channels 16 h)

  pub area_frames : channels ≤ 16 → 65536 < frames → 0 ≡ area_length channels frames
  unfolding area_length
  area_frames h l = rw (le-leb channels 16 h, lt-leb frames 65536 l)

  pub area_all : channels ≤ 16 → frames ≤ 65536 → channels * frames ≡ area_length channels frames
  unfolding area_length
  area_all h l = rw (le-leb channels 16 h, le-leb frames 65536 l)

module _ (s : State) where
  pub work_none : is_state s ≡ false → 0 ≡ work_length s
  unfolding work_length
  work_none h = rw h

  pub work_all : (stride : ℕ) → is_state s ≡ true → stride ≡ stride_of s → s.channels * stride ≡ work_length s
  unfolding work_length
  work_all stride h e = rw (h, e)

  pub work_fits : (stride : ℕ) → is_state s ≡ true → stride ≡ stride_of s → s.channels * stride ≤ 16 * 66048
  work_fits stride h e = rw e (work_small s h)
