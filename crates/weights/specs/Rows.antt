-- Theorems of the definitions: what an infinite mass does here, and calls with no kernels. Assumes nothing.
use Rattle.std.specs.Prelude.{◌≡◌, refl, Bool, true, false, cond, List, [], ℕ, ℤ, pos, Float, Option}
use Rattle.std.proofs.Math.Bool.{and-false}
use Rattle.std.specs.Float.{nan, inf, fin}
use Rattle.std.specs.Float.Ieee.{lt, le, div, of_bits}
use Rattle.base.specs.Floats.{+0, abs}
use Rattle.base.specs.Constants.{one}
use Rattle.base.specs.Loops.{times}
use Rattle.base.specs.Answers.{done, Outcome, outcome}
use Rattle.kernel.specs.declared.kernel.Kernel.{Kernel}
use Rattle.mesh.specs.declared.triangles.Triangle.{Triangle}
use Rattle.source.specs.Volumes.{enclosed_volume}
use Rattle.weights.specs.Weights.{some_off, scale_of, written_of, normalized_run}
use Rattle.weights.specs.Calibration.{target_mass_lem, calibrated_run}

-- "Infinite raw mass with a finite target: source scales to 0": to a zero with the mass's sign, where native falls back
pub infinite_mass : (s : Bool) (m : ℕ) (e : ℤ) → lt +0 (fin false m e) ≡ true
    → scale_of (fin false m e) (inf s) ≡ fin s 0 (pos 0)
unfolding scale_of abs lt div of_bits
infinite_mass true m e h = rw h
infinite_mass false m e h = rw h

-- a NaN mass scales nothing
pub nan_mass : (target : Float) → scale_of target nan ≡ one
unfolding scale_of abs lt of_bits
nan_mass target = rw (and-false (lt +0 target))

-- with no kernel nothing is written, which is the first case of the Rust's `calibrate_kernels`
pub nothing-normalized : (t : ℕ → Triangle) (f : ℕ) (k : ℕ → Kernel) (target : Float) (run : List Float)
    → normalized_run t f k 0 target run ≡ outcome done run
unfolding normalized_run some_off written_of times
nothing-normalized t f k target run = refl

either : (b : Bool) (x : Outcome) → cond b x x ≡ x
either true x = refl
either false x = refl

pub nothing-calibrated : (t : ℕ → Triangle) (f : ℕ) (mean : Option Float) (total : Float) (run : List Float)
    → calibrated_run t f [] mean total run ≡ outcome done run
unfolding calibrated_run normalized_run some_off written_of times
nothing-calibrated t f mean total run =
    either (le (target_mass_lem mean total (enclosed_volume t f)) +0) (outcome done run)
