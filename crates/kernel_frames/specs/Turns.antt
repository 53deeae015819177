-- What a run of a kernel's frames writes: nothing that a reader needs to believe, for no promise of a public function goes through it. Definitions only.
use Rattle.std.specs.Prelude.{List, ℕ, Float}
use Rattle.std.proofs.Math.Seq.{paste}
use Rattle.asynchro_fast.specs.declared.PolynomialDegree.{PolynomialDegree}
use Rattle.area.specs.Parts.{each_part}
use Rattle.kernel_runs.specs.Runs.{run_to}
use Rattle.frames.specs.Turns.{on_in}

-- a run of n frames, with their places and fractions, from place k of each share on
abbrev pub some_frames : PolynomialDegree → List ℕ → List Float → ℕ → ℕ → List Float → List Float → List Float
some_frames degree places fracs k n w o = paste o k (run_to degree w places fracs n) n

abbrev pub filled_all : PolynomialDegree → ℕ → List Float → ℕ → List ℕ → List Float → ℕ → ℕ → ℕ → ℕ → List Float → List Float
filled_all degree mask work stride places fracs k n share channels = each_part (on_in mask work stride (some_frames degree places fracs k n)) share channels
