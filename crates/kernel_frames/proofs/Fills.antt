-- A run of frames in a share of the output, and in all: by its places it is the frames that the definition says. Assumes nothing.
use mathlib.Core.Bool.{Bool, true}
use mathlib.Core.List.{List, ◌++◌, append_assoc}
use mathlib.Core.Path.{◌≡◌, sym, ◌∙◌}
use Prim.Native.Nat.{ℕ, ◌+◌, ◌-◌, ◌≤◌}
use native.Mathlib.Omega.{arith}
use lib.Ieee.{Float}
use lib.ListN.{length, take, drop}
use lib.Seq.{paste, length-paste, drop-drop, take_all}
use Rattle.asynchro_fast.specs.declared.PolynomialDegree.{PolynomialDegree}
use Rattle.channel.specs.Mask.{where_on}
use Rattle.area.proofs.Parted.{lent_long}
use Rattle.kernel_runs.specs.Runs.{run_to, FitTo, Runs}
use Rattle.kernel_runs.proofs.Runs.{run_long}
use Rattle.kernel_frames.specs.Turns.{some_frames}

-- ---- one share, whose part from k on is lent
pub fill_asks : (degree : PolynomialDegree) (work : List Float) (places : List ℕ) (fracs o : List Float) (k n : ℕ) → k + n ≤ length o → n ≤ length places → n ≤ length fracs → FitTo degree (length work) places n
    → Runs degree work places fracs (take (k + n - k) (drop k o))
fill_asks degree work places fracs o k n h p q f =
    let e = lent_long k n o h in
    record { placed = rw e p; parted = rw e q; fit = rw e f }

pub filled : (degree : PolynomialDegree) (work : List Float) (places : List ℕ) (fracs o ys : List Float) (k n : ℕ) (on : Bool) → on ≡ true → k + n ≤ length o
    → ys ≡ run_to degree work places fracs (length (take (k + n - k) (drop k o)))
    → take k o ++ (ys ++ drop (k + n - k) (drop k o)) ≡ where_on on (paste o k (run_to degree work places fracs n) n) o
filled degree work places fracs o ys k n on t h y =
    let r = run_to degree work places fracs n in
    let is : ys ≡ r = rw (lent_long k n o h) at y in
    let j : k + n - k ≡ n = omega arith in
    rw (t, is, j, drop-drop n k o, take_all n r (omega (arith, run_long degree work places fracs o n))) (sym (append_assoc (take k o) r (drop (k + n) o)))

-- ---- all shares
pub frames_long : (degree : PolynomialDegree) (places : List ℕ) (fracs : List Float) (k n share : ℕ) → k + n ≤ share → (w o : List Float) → length o ≡ share → length (some_frames degree places fracs k n w o) ≡ share
frames_long degree places fracs k n share h w o e =
    length-paste o k (run_to degree w places fracs n) n (omega arith) (omega (arith, run_long degree w places fracs o n)) ∙ e

pub fit_same : (degree : PolynomialDegree) (places : List ℕ) (fracs : List Float) (n m m' : ℕ) → m ≡ m' → (n ≤ length places) × ((n ≤ length fracs) × FitTo degree m' places n)
    → (n ≤ length places) × ((n ≤ length fracs) × FitTo degree m places n)
fit_same degree places fracs n m m' e h = rw e h
